-- The entry of a step, and that a drawing alone has a picture.
use Rattle.std.proofs.Common.{◌≡◌, Bool, true, false, None, Option, List, refl, sym, ap, subst, ◌∙◌}
use Rattle.std.specs.Prelude.{is_some, if◌then◌else◌}
use Rattle.vz_pixels.specs.Colour.{Colour}
use Rattle.vz_rules.specs.{Plan.Plan, declared.entry.Effects.Effects, declared.entry.Entry.Entry, Messages.Answer, Messages.says, Messages.accepted}
use Rattle.vz_rules.specs.{declared.entry.Event.Event, declared.entry.Reply.Reply, World.World, World.Client}
use Rattle.vz_rules.specs.declared.entry.Event.TheVariants as event
use Rattle.vz_rules.specs.declared.entry.Reply.TheVariants as reply
use Rattle.vz_rules.specs.Step.{Outcome, begin_answer, done_answer, answer_to, outcome_of, step_in, entry_in}
use Rattle.vz_rules.proofs.Cases.{client_cases}
use Rattle.vz_slow.specs.{Drawn.drawn_picture, Reaching.IsOutcome}
use Rattle.vz_check.specs.Judged.{is_drawing}

-- the entry of a step's reply and effects
pub entry_is : (p : Plan) (w next : World) (v : Event) (r : Reply) (f : Effects) → IsOutcome (step_in p w v) (r, f) next → ◌≡◌ {A = Entry} (record { event = v; reply = r; effects = f }) (entry_in p w v)
unfolding entry_in
entry_is p w next v r f is = ap (λ (o : Outcome). record { event = v; reply = o.reply; effects = o.effects }) is

draws : (v : Event) → is_drawing v ≡ true → event.Draw ≡ v
draws event.Draw is = refl
draws (event.Client c) is = absurd (cc)
draws event.Begin is = absurd (cc)
draws event.Done is = absurd (cc)
draws event.Over is = absurd (cc)

-- the entry of a drawing
pub drawing_is : (p : Plan) (w next : World) (v : Event) (r : Reply) (f : Effects) → is_drawing v ≡ true → IsOutcome (step_in p w event.Draw) (r, f) next → ◌≡◌ {A = Entry} (record { event = v; reply = r; effects = f }) (entry_in p w v)
drawing_is p w next v r f draw is = entry_is p w next v r f (subst (λ (x : Event). IsOutcome (step_in p w x) (r, f) next) (draws v draw) is)

-- an answer has no picture
abbrev HasNone : Plan → World → Reply → Type 0
HasNone p w r = ◌≡◌ {A = Option (List Colour)} None (drawn_picture p w r)

done_by : (p : Plan) (w : World) (t : Bool) → HasNone p w (if t then says reply.Shown (record w { in_flight = None }) else says reply.Nothing w).reply
done_by p w true = refl
done_by p w false = refl

undrawn : (p : Plan) (w : World) (v : Event) → is_drawing v ≡ false → HasNone p w (step_in p w v).reply
unfolding step_in outcome_of answer_to begin_answer done_answer accepted
undrawn p w (event.Client c) other =
    client_cases p w c (λ (a : Answer). HasNone p w a.reply) refl (λ (x : Client) found same.
    record {
      turned = λ q r t e. refl;
      not_yet = λ e. refl;
      stored = λ id block u e. refl;
      submitted = λ local frame u e. refl;
      noted = λ n e. refl;
      reclaimed = λ e. refl;
      rooted = λ local root e. refl;
      joined = λ parent child u e. refl;
      began = λ n u e. refl;
      over = λ e. refl;
      left = λ e. refl;
    })
undrawn p w event.Begin other = refl
undrawn p w event.Draw other = absurd (cc)
undrawn p w event.Done other = done_by p w (is_some w.in_flight)
undrawn p w event.Over other = refl

-- a step that is no drawing has no picture
pub no_picture : (p : Plan) (w next : World) (v : Event) (r : Reply) (f : Effects) → is_drawing v ≡ false → IsOutcome (step_in p w v) (r, f) next → ◌≡◌ {A = Option (List Colour)} None (drawn_picture p w r)
no_picture p w next v r f other is = undrawn p w v other ∙ ap (λ (o : Outcome). drawn_picture p w o.reply) (sym is)
