-- What a drawing of the display leads to.
use Rattle.std.proofs.Common.{◌≡◌, ◌≢◌, ◌+◌, Bool, true, false, Option, Some, None, refl, ap, sym, ◌∙◌, subst, cond, arith}
use Rattle.std.specs.{Prelude.is_some, Option.option_map}
use Rattle.vz_rules.specs.{Plan.Plan, Scene.scene_of}
use Rattle.vz_rules.specs.{World.World, World.Scene, World.Machine, Messages.Answer, Messages.says, declared.entry.Reply.Reply, Course.is_drawn}
use Rattle.vz_rules.specs.declared.entry.Event.TheVariants as event
use Rattle.vz_rules.specs.declared.entry.Reply.TheVariants as reply
use Rattle.vz_rules.specs.Step.{step_in, entry_in, answer_to, outcome_of, scene_answer, draw_answer, world}
use Rattle.vz_machine.specs.{Pictured.Pictured, Stepping.ShowsDrawn}
use Rattle.vz_desk.specs.{Books.Booked, Books.machine_of, Books.next_entry, Totals.DisplayTotals, Displays.with_entry}
use Rattle.std.proofs.lemmas.Bool.Decides.{nat_tests}

-- where there is a picture, something was drawn
pub shown_drew : (m : Machine) (r : Reply) (p : Pictured) → ShowsDrawn m r (Some p) → is_drawn r ≡ true
shown_drew m r p h = grind (arith, nat_tests)

-- where there is none, nothing was drawn
pub none_drew : (m : Machine) (r : Reply) → ShowsDrawn m r None → is_drawn r ≡ false
none_drew m r h = grind (arith, nat_tests)

abbrev is_busy : Reply → Bool
is_busy reply.Busy = true
is_busy _ = false

-- an answer that is not Busy
abbrev IsFree : Answer → Type 0
IsFree a = is_busy a.reply ≡ false

free_by : (t : Bool) (a b : Answer) → t ≡ false → IsFree b → IsFree (cond t a b)
free_by t a b e h = grind (arith, nat_tests)

drawn_free : (p : Plan) (w : World) (o : Option Scene) → IsFree (elim o [ Some scene ↦ scene_answer p w scene | None ↦ says reply.NoRoot w ])
unfolding scene_answer
drawn_free p w o = grind (arith, nat_tests)

draw_free : (p : Plan) (w : World) → is_some w.in_flight ≡ false → IsFree (draw_answer p w)
unfolding draw_answer
draw_free p w lands = free_by (is_some w.in_flight) _ _ lands (drawn_free p w (scene_of w))

not_busy : (r : Reply) → is_busy r ≡ false → r ≢ reply.Busy
not_busy r free is = let none : true ≡ false = ap is_busy (sym is) ∙ free in absurd (cc)

-- a drawing is not busy where no frame is in flight
pub never_busy : {S : Type 0} (b : Booked S) → is_some (world b.plan b.history).in_flight ≡ false → (next_entry b event.Draw).reply ≢ reply.Busy
unfolding entry_in step_in answer_to outcome_of
never_busy b lands = not_busy (draw_answer b.plan (world b.plan b.history)).reply (draw_free b.plan (world b.plan b.history) lands)

-- what is shown, where there is this picture, or none
module _ {S P : Type 0} (b : Booked S) (pictured : P → Pictured) (o : Option P) (shows : ShowsDrawn (machine_of b) (next_entry b event.Draw).reply (option_map pictured o)) where
  pub shows_some : (p : P) → o ≡ Some p → ShowsDrawn (machine_of b) (next_entry b event.Draw).reply (Some (pictured p))
  shows_some p is = subst (λ (x : Option P). ShowsDrawn (machine_of b) (next_entry b event.Draw).reply (option_map pictured x)) is shows

  pub shows_none : o ≡ None → ShowsDrawn (machine_of b) (next_entry b event.Draw).reply None
  shows_none is = subst (λ (x : Option P). ShowsDrawn (machine_of b) (next_entry b event.Draw).reply (option_map pictured x)) is shows

  pub drew_some : (p : P) → o ≡ Some p → is_drawn (next_entry b event.Draw).reply ≡ true
  drew_some p is = shown_drew (machine_of b) (next_entry b event.Draw).reply (pictured p) (shows_some p is)

  pub drew_none : o ≡ None → is_drawn (next_entry b event.Draw).reply ≡ false
  drew_none is = none_drew (machine_of b) (next_entry b event.Draw).reply (shows_none is)

-- a drawing is counted
pub draws_one : {S : Type 0} (t : DisplayTotals) (b : Booked S) → (with_entry t (next_entry b event.Draw)).draws ≡ t.draws + 1
unfolding entry_in
draws_one t b = refl
