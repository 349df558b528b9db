-- What leaves that which is owed as it is.
use Rattle.std.proofs.Common.{◌≡◌, ℕ, ◌+◌, ◌<◌, Bool, true, false, ◌&&◌, Option, Some, None, is_some, List, [], ◌∷◌, slice_get, Contains, count_by, refl, ap, sym, subst, ◌∙◌, arith, cond}
use Rattle.std.proofs.lemmas.Bool.Decides.{nat_tests}
use Rattle.std.specs.Option.{option_and_then}
use Rattle.vz_geom.specs.Rectangle.{is_empty_rect}
use Rattle.vz_ids.specs.{declared.LocalSurfaceId.LocalSurfaceId, declared.Sub.Sub, Ids.same_sub}
use Rattle.vz_frame.specs.{declared.frame.CompositorFrame.CompositorFrame, declared.message.Message.TheVariants.Close}
use Rattle.vz_rules.specs.{Plan.Plan, Plan.IsPlan, Scene.scene_of, Reach.naming, Damage.drawn_damage}
use Rattle.vz_rules.specs.{Returns.feedback_of, Walk.walk_of, Walk.walked_subs, Walk.too_much}
use Rattle.vz_rules.specs.World.{World, Client, Scene, Submission, sub_of}
use Rattle.vz_rules.specs.Messages.{Answer, new_submission, message_answer}
use Rattle.vz_rules.specs.Step.{begin_answer, draw_answer, scene_answer, accepted_frames}
use Rattle.vz_rules.specs.Kept.{Keeps, KeepsAlways, KeepsPlan, KeepsMessages, is_by}
use Rattle.vz_rules.proofs.{Members.at_contains, Members.contains_here, Kept_facts.unfed_open, Kept_few.lists_short}
use Rattle.vz_returns.specs.{declared.due.Due.Due, Owed.Owed, Owed.AreOwed, Owed.place_of, Owed.gets_at}
use Rattle.vz_returns.proofs.{Owes.none_some, Owes.yes_no, Owes.same_self, Owes.owes_same, Events.new_name}

pub stays_named : (w : World) (f : Owed) → AreOwed w f → AreOwed (naming w) f
unfolding naming
stays_named w f o = o

-- one of two answers
answered : (t : Bool) (a b : Answer) (f : Owed) → AreOwed a.world f → AreOwed b.world f → AreOwed (cond t a b).world f
answered true a b f o q = o
answered false a b f o q = q

pub stays_closed : (w : World) (c : Client) (f : Owed) → AreOwed w f → AreOwed (message_answer w c Close).world f
unfolding message_answer
stays_closed w c f o = o

pub stays_ticked : (p : Plan) (w : World) (f : Owed) → AreOwed w f → AreOwed (begin_answer p w).world f
unfolding begin_answer
stays_ticked p w f o = o

-- Between steps

-- none gets feedback
pub none_gets : (w : World) (s : Submission) → Keeps w → Contains w.subs s → feedback_of w [] s ≡ None
none_gets w s h c = grind (arith, nat_tests, unfed_open w s h c)

-- nor where a frame is drawn now
none_gets_drawn : (w : World) (drawn : List Sub) (s : Submission) → Keeps w → w.in_flight ≡ None → Contains w.subs s
    → feedback_of (record w { in_flight = Some drawn }) [] s ≡ None
none_gets_drawn w drawn s h none c = grind (arith, nat_tests, unfed_open w s h c)

drawn_owed : (w : World) (drawn : List Sub) (f : Owed) → Keeps w → w.in_flight ≡ None → AreOwed w f
    → AreOwed (record w { in_flight = Some drawn }) f
drawn_owed w drawn f h none o =
    let flying = record w { in_flight = Some drawn } in
    owes_same (feedback_of w []) (feedback_of flying []) w.subs f (λ s c. none_gets_drawn w drawn s h none c ∙ sym (none_gets w s h c)) o

scene_owed : (p : Plan) (w : World) (scene : Scene) (f : Owed) → Keeps w → w.in_flight ≡ None → AreOwed w f
    → AreOwed (scene_answer p w scene).world f
unfolding scene_answer
scene_owed p w scene f h none o =
    let walked = walk_of p.size scene in
    let damage = drawn_damage p.size w.last (accepted_frames w) scene.root walked in
    answered (too_much walked) _ _ f o
    (answered (is_some w.last && is_empty_rect damage) _ _ f o (drawn_owed w (walked_subs scene walked) f h none o))

seen_or : (r : Option Scene) (g : Scene → Answer) (b : Answer) (f : Owed) → ((s : Scene) → AreOwed (g s).world f) → AreOwed b.world f
    → AreOwed (elim r as (λ _. Answer) [ Some s ↦ g s | None ↦ b ]).world f
seen_or None g b f o q = q
seen_or (Some s) g b f o q = o s

busy_or : (w : World) (v : Option (List Sub)) (a b : Answer) (f : Owed) → w.in_flight ≡ v → AreOwed a.world f
    → (w.in_flight ≡ None → AreOwed b.world f) → AreOwed (cond (is_some v) a b).world f
busy_or w None a b f e o q = q e
busy_or w (Some drawn) a b f e o q = o

pub stays_drawn : (p : Plan) (w : World) (f : Owed) → Keeps w → AreOwed w f → AreOwed (draw_answer p w).world f
unfolding draw_answer
stays_drawn p w f h o =
    busy_or w w.in_flight _ _ f refl o (λ none. seen_or (scene_of w) (scene_answer p w) _ f (λ s. scene_owed p w s f h none o) o)

-- What is known

pub new_unplaced : (w : World) (c : Client) (local : LocalSurfaceId) (frame : CompositorFrame) (f : Owed) → KeepsAlways w → AreOwed w f
    → place_of f (sub_of (new_submission w c local frame)) ≡ None
unfolding new_submission
new_unplaced w c local frame f keeps o = by (place_of f sub) refl
  where
    sub : Sub
    sub = record { client = c.number; ordinal = count_by (is_by c.number) w.subs + 1 }

    by : (v : Option ℕ) → place_of f sub ≡ v → v ≡ None
    by None e = refl
    by (Some n) e =
        let m = o.only sub n e in
        let no_way : true ≡ false = yes_no (same_sub sub (sub_of m.0)) (ap (same_sub sub) m.2 ∙ same_self sub)
        (new_name w keeps c.number n m.0 m.1) in
        absurd (cc)

pub few_accepted : (p : Plan) (w : World) (f : Owed) → IsPlan p → KeepsAlways w → KeepsPlan p w → KeepsMessages w → AreOwed w f
    → f.accepted < 18446744073709551615
few_accepted p w f plan keeps of_plan messages o = grind (arith, nat_tests, lists_short p w plan keeps of_plan messages)

pub nothing_due : (w : World) (f : Owed) → Keeps w → AreOwed w f → f.due ≡ []
nothing_due w f h o = by f.due refl
  where
    gets_none : (n : ℕ) (v : Option Submission) → slice_get w.subs n ≡ v → option_and_then (feedback_of w []) v ≡ None
    gets_none n None e = refl
    gets_none n (Some s) e = none_gets w s h (at_contains w.subs n s e)

    by : (list : List Due) → f.due ≡ list → list ≡ []
    by [] e = refl
    by (d ∷ list) e =
        let found = o.due d (subst (λ l. Contains l d) (sym e) (contains_here d list)) in
        let no_way : true ≡ false = none_some d.fed (gets_at (feedback_of w []) w.subs d.place)
        (gets_none d.place (slice_get w.subs d.place) refl) found in
        absurd (cc)
