-- The drawn frame stays where what is in flight and what was accepted does.
use Rattle.std.proofs.Common.{◌≡◌, Bool, true, ◌&&◌, ◌||◌, Option, Some, None, List, [], ◌∷◌, map, refl, ap, sym, ◌∙◌, cond, arith}
use Rattle.std.proofs.Common.{Contains, subst}
use Rattle.std.proofs.Common.{is_some}
use Rattle.std.specs.{Option.option_map, List.list_any}
use Rattle.vz_ids.specs.{declared.LocalSurfaceId.LocalSurfaceId, declared.Sub.Sub, Ids.same_sub}
use Rattle.vz_frame.specs.{declared.frame.CompositorFrame.CompositorFrame}
use Rattle.vz_rules.specs.{Singly.rising, Singly.going, Singly.as_one_rises}
use Rattle.vz_rules.specs.declared.entry.State.TheVariants.{Active, Past, Dropped}
use Rattle.vz_rules.specs.{Plan.Plan, Returns.feed, Returns.mark_fed, Step.done_answer}
use Rattle.vz_rules.specs.World.{World, Client, Surface, Submission, FrameData, opening, is_waiting, is_active, is_on, is_in_flight}
use Rattle.vz_rules.specs.World.{has_sub, sub_of}
use Rattle.vz_rules.specs.Reach.{drop_on}
use Rattle.vz_rules.specs.declared.entry.Reply.TheVariants as reply
use Rattle.vz_rules.specs.Messages.{says, accepted, new_submission, replace_on}
use Rattle.vz_rules.proofs.Members.{map_contains, push_contains}
use Rattle.vz_surface_manager.specs.{Flown.Flown, Flown.AreFlown, Flown.subs_of, Flown.flies, Rosters.IsRosterOf}
use Rattle.std.proofs.lemmas.Bool.Decides.{nat_tests}

-- a submission is still there, as it was accepted
abbrev StaysIn : List Submission → Submission → Type 0
StaysIn subs s = (t : Submission) × Contains subs t × (t.submitted ≡ s.submitted)

flown_kept : (w v : World) (f : Option (List Flown)) → v.in_flight ≡ w.in_flight
    → ((s : Submission) → Contains w.subs s → StaysIn v.subs s) → AreFlown w f → AreFlown v f
flown_kept w v f e stays h =
    record {
      drawn = e ∙ h.drawn;
      listed = λ flown g is there.
          let s = h.listed flown g is there in
          let t = stays s.0 s.1 in (
            t.0,
            t.1,
            ap (λ (i : FrameData). i.sub) t.2 ∙ s.2,
            ap (λ (i : FrameData). i.frame.resources) t.2 ∙ s.3,
          );
    }

flown_changed : (w v : World) (f : Option (List Flown)) (g : Submission → Submission) → v.in_flight ≡ w.in_flight → v.subs ≡ map g w.subs
    → ((s : Submission) → (g s).submitted ≡ s.submitted) → AreFlown w f → AreFlown v f
flown_changed w v f g e changed same h =
    flown_kept w v f e (λ s c. (g s, subst (λ (l : List Submission). Contains l (g s)) (sym changed) (map_contains g w.subs s c), same s)) h

pub flown_same : (w v : World) (f : Option (List Flown)) → v.in_flight ≡ w.in_flight → v.subs ≡ w.subs → AreFlown w f → AreFlown v f
flown_same w v f e same h = grind (arith, nat_tests, flown_kept w v f e)

-- What follows a step

pub flown_fed : (presented : List Sub) (w : World) (f : Option (List Flown)) → AreFlown w f → AreFlown (feed presented w) f
unfolding feed
flown_fed presented w f h = flown_changed w _ f (mark_fed w presented) refl refl (λ s. refl) h

risen_by : (one past : Bool) (t : Submission)
    → (cond one (record t { state = Active; was_active = true }) (cond past (record t { state = Past }) t)).submitted ≡ t.submitted
risen_by one past t = grind (arith, nat_tests)

pub flown_risen : (s : Submission) (w : World) (f : Option (List Flown)) → AreFlown w f → AreFlown (rising s w) f
unfolding rising
flown_risen s w f h =
    flown_changed w _ f (as_one_rises s) refl refl
    (λ t. risen_by (same_sub (sub_of t) (sub_of s)) (is_active t && is_on s.submitted.id t) t) h

dropped_by : (t : Bool) (s : Submission) → (cond t (record s { state = Dropped }) s).submitted ≡ s.submitted
dropped_by t s = grind (arith, nat_tests)

pub flown_gone : (c : Surface) (w : World) (f : Option (List Flown)) → AreFlown w f → AreFlown (going c w) f
unfolding going
flown_gone c w f h =
    flown_changed w _ f (drop_on (c ∷ [])) refl refl
    (λ s. dropped_by ((is_waiting s || is_active s) && list_any (λ (d : Surface). is_on d.id s) (c ∷ [])) s) h

-- Messages

pub flown_accepted : (w : World) (c : Client) (local : LocalSurfaceId) (frame : CompositorFrame) (f : Option (List Flown)) → AreFlown w f
    → AreFlown (accepted w c local frame).world f
unfolding accepted
flown_accepted w c local frame f h =
    let change = replace_on (record { sink = c.sink; local = local }) in
    flown_kept w _ f refl
    (λ s there. (
      change s,
      push_contains (map change w.subs) (new_submission w c local frame) (change s) (map_contains change w.subs s there),
      dropped_by (is_waiting s && is_on (record { sink = c.sink; local = local }) s) s,
    )) h

-- No drawn frame

pub flown_none : (w : World) → w.in_flight ≡ None → AreFlown w None
flown_none w e = record { drawn = e; listed = λ flown f is there. absurd (cc) }

pub flown_opening : (p : Plan) → AreFlown (opening p) None
unfolding opening
flown_opening p = flown_none _ refl

done_by : (w : World) (o : Option (List Sub)) → w.in_flight ≡ o
    → AreFlown (cond (is_some o) (says reply.Shown (record w { in_flight = None })) (says reply.Nothing w)).world None
done_by w None e = flown_none w e
done_by w (Some drawn) e = flown_none (record w { in_flight = None }) refl

pub flown_done : (w : World) → AreFlown (done_answer w).world None
unfolding done_answer
flown_done w = done_by w w.in_flight refl

-- What is told

flies_by : (f : Option (List Flown)) (sub : Sub) → flies f sub ≡ is_in_flight (option_map subs_of f) sub
flies_by f sub = grind (arith, nat_tests)

pub flown_flies : (w : World) (f : Option (List Flown)) (sub : Sub) → AreFlown w f → flies f sub ≡ is_in_flight w.in_flight sub
flown_flies w f sub h = flies_by f sub ∙ ap (λ (o : Option (List Sub)). is_in_flight o sub) (sym h.drawn)

some_by : (f : Option (List Flown)) → is_some f ≡ is_some (option_map subs_of f)
some_by f = grind (arith, nat_tests)

pub flown_some : (w : World) (f : Option (List Flown)) → AreFlown w f → is_some f ≡ is_some w.in_flight
flown_some w f h = some_by f ∙ ap (λ (o : Option (List Sub)). is_some o) (sym h.drawn)

pub flown_names : (w : World) (flown roster : List Flown) (sub : Sub) → AreFlown w (Some flown) → IsRosterOf flown roster
    → has_sub (subs_of roster) sub ≡ is_in_flight w.in_flight sub
flown_names w flown roster sub h is = is.names sub ∙ flown_flies w (Some flown) sub h

pub flown_listed : (w : World) (flown roster : List Flown) (f : Flown) → AreFlown w (Some flown) → IsRosterOf flown roster
    → Contains roster f
    → (s : Submission) × Contains w.subs s × (sub_of s ≡ f.0) × (s.submitted.frame.resources ≡ f.1)
flown_listed w flown roster f h is there = h.listed flown f refl (is.only f there)
