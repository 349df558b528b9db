-- Those that wait where a submission is accepted.
use Rattle.std.proofs.Common.{◌≡◌, ℕ, suc, ◌+◌, ◌≤◌, ◌<◌, Bool, true, false, not, ◌&&◌, ◌||◌, ◌==◌, List, [], ◌∷◌, ◌++◌, length, map, filter, refl, ap, sym, ◌∙◌, arith, cond, Contains, count_by}
use Rattle.std.specs.{Prelude.nat_le, Prelude.option_to_list, List.list_any, List.list_all}
use Rattle.std.proofs.{lemmas.Bool.and_parts, lemmas.Bool.eqb-true, lemmas.Bool.eq-eqb, lemmas.List.Elements.filter-append, lemmas.Grind.common_steps}
use Rattle.std.proofs.{lemmas.Bool.Decides.nat_tests, lemmas.List.map-append, lemmas.List.Folds.list_any-append}
use Rattle.vz_ids.specs.{declared.LocalSurfaceId.LocalSurfaceId, declared.SurfaceId.SurfaceId, declared.Sub.Sub, Ids.same_sub}
use Rattle.vz_frame.specs.declared.frame.CompositorFrame.{CompositorFrame}
use Rattle.vz_rules.specs.{declared.entry.State.TheVariants.Dropped, Settle.is_met, Settle.ready, Kept.KeepsAlways, Kept.is_by}
use Rattle.vz_rules.specs.World.{World, Client, Submission, is_waiting, is_on, sub_of}
use Rattle.vz_rules.specs.Messages.{new_submission, accepted, id_of, took, submitting}
use Rattle.vz_rules.proofs.Members.{any_none, any_map, contains_at, contains_map, filter_at, filter_none}
use Rattle.vz_rules.proofs.{Counts.count_at, Facts.or_false as or_none}
use Rattle.vz_deps.specs.{Tracking.Blocked, Tracking.is_blocked, Blocking.dependencies_of, Blocking.blocked_of}
use Rattle.vz_deadlines.specs.{declared.due.Due.Due, Timing.waits, Timing.due_of}
use Rattle.vz_surface_manager.specs.declared.arrival.Arrival.{Arrival}
use Rattle.vz_surface_manager.specs.{Waits.Waits, Waits.AreWaiting, Waits.Tells, Waits.is_among, Left_out.blocked_without, Left_out.due_without}
use Rattle.vz_surface_manager.proofs.Waits_on.{Stand, comes, stays, stand_of, waiting_from, stand_alike, ready_comes}
use Rattle.vz_surface_manager.proofs.Waits_kept.{met_by, met_is, met_alike}
use Rattle.vz_surface_manager.proofs.Quiet_changes.{closes_submitting}
use Rattle.vz_surface_manager.proofs.{Dropped_waits.dropping, Dropped_waits.drops_leave, Dropped_waits.stand_dropped, Closed_waits.none_comes}

none_is_less : (n : ℕ) → false ≡ (suc n == 0)
none_is_less n = grind (arith, nat_tests, eqb-true (suc n) 0)

-- all pass where none fails
all_counted : {A : Type 0} (p : A → Bool) (xs : List A) → list_all p xs ≡ (length (filter (λ x. not (p x)) xs) == 0)
all_counted p [] = refl
all_counted p (x ∷ xs) = grind (arith, nat_tests, all_counted p xs, none_is_less (length (filter (λ x. not (p x)) xs)))

-- it becomes active at once
abbrev pub at_once : List SurfaceId → ℕ → ℕ → Bool
at_once lacked due tick = (length lacked == 0) || nat_le due tick

module _ (w : World) (c : Client) (local : LocalSurfaceId) (frame : CompositorFrame) where
  abbrev new : Submission
  new = new_submission w c local frame

  abbrev id : SurfaceId
  id = id_of c local

  abbrev drops : Submission → Bool
  drops s = is_waiting s && is_on id s

  abbrev k : Client → Client
  k x = cond (x.number == c.number) (took (submitting w frame x)) x

  subs_then : (accepted w c local frame).world.subs ≡ map (dropping drops) w.subs ++ new ∷ []
  unfolding accepted
  subs_then = refl

  clients_then : (accepted w c local frame).world.clients ≡ map k w.clients
  unfolding accepted
  clients_then = refl

  tick_then : (accepted w c local frame).world.tick ≡ w.tick
  unfolding accepted
  tick_then = refl

  was_not : new.was_active ≡ false
  unfolding new_submission
  was_not = refl

  -- a submission that was never active meets nothing
  meets_none : (clients : List Client) → met_by (map (dropping drops) w.subs ++ new ∷ []) clients ≡ met_by (map (dropping drops) w.subs) clients
  meets_none clients = grind (arith, nat_tests, list_any-append, dropping, was_not, or_none)

  met_then : is_met (accepted w c local frame).world ≡ is_met w
  met_then =
      met_is (accepted w c local frame).world
      ∙ ((λ i. met_by (subs_then i) (clients_then i)) ∙ (meets_none (map k w.clients) ∙ (met_alike (dropping drops) k w.subs w.clients (drops_leave drops) (closes_submitting w frame c.number) ∙ sym (met_is w))))

  waits_new : is_waiting new ≡ true
  unfolding new_submission
  waits_new = refl

  module _ (a : Arrival) (tick : ℕ) (lacked : List SurfaceId) (told : Tells w c local frame a tick lacked) where
    lacks : lacked ≡ filter (λ d. not (is_met w d)) (dependencies_of new)
    unfolding new_submission
    lacks = told.lacked

    -- what is told says whether it becomes active at once
    new_comes : comes (is_met w) w.tick new ≡ at_once lacked a.due tick
    new_comes = grind (arith, nat_tests, waits_new, all_counted (is_met w), lacks)

    new_stays : stays (is_met w) w.tick new ≡ not (at_once lacked a.due tick)
    new_stays = grind (arith, nat_tests, waits_new, all_counted (is_met w), lacks)

    appended : {B : Type 0} (g : Submission → B) (t : Bool) (xs : List Submission) (y : B) → g new ≡ y → stays (is_met w) w.tick new ≡ not t
        → map g (filter (stays (is_met w) w.tick) xs) ++ cond t [] (y ∷ []) ≡ map g (filter (stays (is_met w) w.tick) (xs ++ new ∷ []))
    appended g t xs y e f = grind (arith, nat_tests, filter-append (stays (is_met w) w.tick) xs, stays (is_met w) w.tick, map-append g (filter (stays (is_met w) w.tick) xs))

    pub waits_accepted : (old later : Waits) → KeepsAlways w → AreWaiting w old
        → later.blocked ≡ blocked_without (option_to_list a.replaced) old.blocked ++ cond (at_once lacked a.due tick) [] (record { sub = a.sub; unmet = lacked } ∷ [])
        → later.due ≡ due_without (option_to_list a.replaced) old.due ++ cond (at_once lacked a.due tick) [] (record { sub = a.sub; tick = a.due } ∷ [])
        → AreWaiting (accepted w c local frame).world later
    waits_accepted old later h r e f =
        let stand = stand_dropped w id drops h (λ s t. ap (λ (b : Bool). b && is_on id s) t) (is_met w) w.tick old.blocked old.due (stand_of w old r) in
        let t = at_once lacked a.due tick in
        let v = (accepted w c local frame).world in
        let those = map (dropping drops) w.subs in
        let whole : Stand (is_met w) w.tick (those ++ new ∷ []) later.blocked later.due =
        record {
          blocked =
              e
              ∙ ((λ i. (ap (λ o. blocked_without (option_to_list o) old.blocked) told.replaced ∙ stand.blocked) i ++ cond t [] (record { sub = a.sub; unmet = lacked } ∷ []))
              ∙ appended (blocked_of (is_met w)) t those (record { sub = a.sub; unmet = lacked }) (λ i. record { sub = sym told.sub i; unmet = sym lacks i }) new_stays);
          due =
              f
              ∙ ((λ i. (ap (λ o. due_without (option_to_list o) old.due) told.replaced ∙ stand.due) i ++ cond t [] (record { sub = a.sub; tick = a.due } ∷ []))
              ∙ appended due_of t those (record { sub = a.sub; tick = a.due }) (λ i. record { sub = sym told.sub i; tick = sym told.due i }) new_stays);
        } in
        waiting_from v later (stand_alike (is_met w) (is_met v) w.tick v.tick (those ++ new ∷ []) v.subs later.blocked later.due met_then tick_then subs_then whole)

    dropped_comes : (t : Bool) (s : Submission) → comes (is_met w) w.tick s ≡ false → comes (is_met w) w.tick (cond t (record s { state = Dropped }) s) ≡ false
    dropped_comes t s h = grind (arith, nat_tests)

    none_else : ready w ≡ [] → filter (comes (is_met w) w.tick) (map (dropping drops) w.subs) ≡ []
    none_else none =
        filter_none (comes (is_met w) w.tick) (map (dropping drops) w.subs) (λ x m.
        let s = contains_map (dropping drops) w.subs x m in
        ap (comes (is_met w) w.tick) (sym s.2) ∙ dropped_comes (drops s.0) s.0 (none_comes w s.0 none s.1))

    pub ready_accepted : ready w ≡ [] → map sub_of (ready (accepted w c local frame).world) ≡ cond (at_once lacked a.due tick) (a.sub ∷ []) []
    ready_accepted none = grind (arith, nat_tests, ready_comes, comes, met_then, tick_then, subs_then, filter-append, dropping, none_else, new_comes)

    -- what is left and what becomes active, in either case

    pub waits_at_once : (old later : Waits) → at_once lacked a.due tick ≡ true → KeepsAlways w → AreWaiting w old
        → later.blocked ≡ blocked_without (option_to_list a.replaced) old.blocked → later.due ≡ due_without (option_to_list a.replaced) old.due
        → AreWaiting (accepted w c local frame).world later
    waits_at_once old later now_is h r e f = grind (arith, nat_tests, common_steps, waits_accepted old later h r)

    pub waits_later : (old later : Waits) → at_once lacked a.due tick ≡ false → KeepsAlways w → AreWaiting w old
        → later.blocked ≡ blocked_without (option_to_list a.replaced) old.blocked ++ record { sub = a.sub; unmet = lacked } ∷ []
        → later.due ≡ due_without (option_to_list a.replaced) old.due ++ record { sub = a.sub; tick = a.due } ∷ []
        → AreWaiting (accepted w c local frame).world later
    waits_later old later not_now h r e f = grind (arith, nat_tests, waits_accepted old later h r)

    pub active_at_once : at_once lacked a.due tick ≡ true → ready w ≡ [] → map sub_of (ready (accepted w c local frame).world) ≡ a.sub ∷ []
    active_at_once now_is none = ready_accepted none ∙ ap (λ (t : Bool). cond t (a.sub ∷ []) []) now_is

    pub active_later : at_once lacked a.due tick ≡ false → ready w ≡ [] → map sub_of (ready (accepted w c local frame).world) ≡ []
    active_later not_now none = ready_accepted none ∙ ap (λ (t : Bool). cond t (a.sub ∷ []) []) not_now

  -- its name is none of those before
  unnamed : KeepsAlways w → (s : Submission) → Contains w.subs s → same_sub (sub_of s) (sub_of new) ≡ false
  unfolding new_submission
  unnamed h s m =
      elim (same_sub (sub_of s) (sub_of new)) as (λ (t : Bool). same_sub (sub_of s) (sub_of new) ≡ t → t ≡ false) [
        | true ↦ λ e.
            let parts = and_parts (s.submitted.sub.client == c.number) (s.submitted.sub.ordinal == (count_by (is_by c.number) w.subs + 1)) e in
            let owner : s.submitted.sub.client ≡ c.number = eqb-true s.submitted.sub.client c.number parts.0 in
            let ordinal : s.submitted.sub.ordinal ≡ count_by (is_by c.number) w.subs + 1 = eqb-true s.submitted.sub.ordinal (count_by (is_by c.number) w.subs + 1) parts.1 in
            let at = contains_at w.subs s m in
            let own = h.numbers.ordered at.0 s at.1 in
            let before = count_at (is_by s.submitted.sub.client) w.subs at.0 s at.1 (eq-eqb s.submitted.sub.client s.submitted.sub.client refl) in
            let whole : count_by (is_by s.submitted.sub.client) w.subs ≡ count_by (is_by c.number) w.subs = ap (λ n. count_by (is_by n) w.subs) owner in
            absurd (omega (arith, ordinal, own, before, whole))
        | false ↦ λ e. refl
      ] refl

  none_named : {B : Type 0} (g : Submission → B) (name : B → Sub) (p : Submission → Bool) → ((s : Submission) → name (g s) ≡ sub_of s) → KeepsAlways w
      → list_any (λ b. same_sub (name b) (sub_of new)) (map g (filter p w.subs)) ≡ false
  none_named g name p is h =
      any_map g (λ b. same_sub (name b) (sub_of new)) (λ (s : Submission). same_sub (sub_of s) (sub_of new)) (filter p w.subs) (λ s. ap (λ n. same_sub n (sub_of new)) (is s))
      ∙ any_none (λ (s : Submission). same_sub (sub_of s) (sub_of new)) (filter p w.subs) (λ s m. unnamed h s (filter_at p w.subs s m).0)

  pub is_new : (a : Waits) → KeepsAlways w → AreWaiting w a → is_among a (sub_of new) ≡ false
  unfolding is_blocked waits
  is_new a h r =
      let stand = stand_of w a r in
      λ i. (ap (λ (l : List Blocked). list_any (λ b. same_sub b.sub (sub_of new)) l) stand.blocked ∙ none_named (blocked_of (is_met w)) (λ b. b.sub) (stays (is_met w) w.tick) (λ s. refl) h) i
      || (ap (λ (l : List Due). list_any (λ d. same_sub d.sub (sub_of new)) l) stand.due ∙ none_named due_of (λ d. d.sub) (stays (is_met w) w.tick) (λ s. refl) h) i

-- It becomes active at once or not

pub lacks_none : (lacked : List SurfaceId) (due tick : ℕ) → (length lacked == 0) ≡ true → at_once lacked due tick ≡ true
lacks_none lacked due tick e = ap (λ (t : Bool). t || nat_le due tick) e

pub is_due : (lacked : List SurfaceId) (due tick : ℕ) → due ≤ tick → at_once lacked due tick ≡ true
is_due lacked due tick h = grind (arith, nat_tests)

pub is_neither : (lacked : List SurfaceId) (due tick : ℕ) → (length lacked == 0) ≡ false → tick < due → at_once lacked due tick ≡ false
is_neither lacked due tick e h = grind (arith, nat_tests)
