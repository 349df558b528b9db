-- Those that wait without some of them, and where a submission on a surface is dropped.
use Rattle.std.proofs.Common.{◌≡◌, ℕ, Bool, true, false, not, ◌&&◌, ◌||◌, Option, Some, None, List, map, filter, find, refl, ap, sym, ◌∙◌, cond, Contains, is_some, arith}
use Rattle.std.specs.{Prelude.option_to_list, Option.option_map}
use Rattle.std.proofs.{lemmas.Bool.and_parts, lemmas.Bool.and_from, lemmas.Bool.Decides.nat_tests}
use Rattle.vz_ids.specs.{declared.SurfaceId.SurfaceId, declared.Sub.Sub, Ids.same_sub}
use Rattle.vz_rules.specs.{declared.entry.State.TheVariants.Dropped, Settle.is_met, Singly.going, Kept.KeepsAlways}
use Rattle.vz_rules.specs.World.{World, Submission, Surface, is_waiting, is_active, is_on, sub_of, has_sub}
use Rattle.vz_rules.proofs.Members.{contains_at, at_same, find_at, found, none_at, same_tests, when_same}
use Rattle.vz_rules.proofs.{Counts.one_place, Kept_singly.apart, Kept_singly.own_sub, Facts.or_false as or_none}
use Rattle.vz_deps.specs.{Tracking.Blocked, Blocking.blocked_of}
use Rattle.vz_deadlines.specs.{declared.due.Due.Due, Timing.due_of}
use Rattle.vz_surface_manager.specs.{Waits.Waits, Waits.AreWaiting, Waits.waiting_on, Left_out.blocked_without, Left_out.due_without}
use Rattle.vz_surface_manager.proofs.Filtered.{filter_alike, filter_twice, filter_mapped, filter_changed}
use Rattle.vz_surface_manager.proofs.Waits_on.{Stand, stays, stand_of, waiting_from, stand_alike}
use Rattle.vz_surface_manager.proofs.Quiet_changes.{closes_plain}
use Rattle.std.proofs.lemmas.List.{map-id}
use Rattle.vz_surface_manager.proofs.Waits_kept.{LeavesActive, met_by, met_is, met_alike}

pub blocked_less : (met : SurfaceId → Bool) (p q : Submission → Bool) (gone : List Sub) (subs : List Submission)
    → ((s : Submission) → Contains subs s → (p s && not (has_sub gone (sub_of s))) ≡ q s) → blocked_without gone (map (blocked_of met) (filter p subs)) ≡ map (blocked_of met) (filter q subs)
unfolding blocked_without
blocked_less met p q gone subs h = grind (arith, nat_tests, filter_mapped, filter_twice, filter_alike)

pub due_less : (p q : Submission → Bool) (gone : List Sub) (subs : List Submission) → ((s : Submission) → Contains subs s → (p s && not (has_sub gone (sub_of s))) ≡ q s)
    → due_without gone (map due_of (filter p subs)) ≡ map due_of (filter q subs)
unfolding due_without
due_less p q gone subs h = grind (arith, nat_tests, filter_mapped, filter_twice, filter_alike)

-- of those that wait, exactly the one that is told is on the surface
pub gone_is : (w : World) (id : SurfaceId) (s : Submission) → KeepsAlways w → Contains w.subs s → is_waiting s ≡ true
    → has_sub (option_to_list (waiting_on w id)) (sub_of s) ≡ is_on id s
unfolding waiting_on
gone_is w id s h c waits =
    elim (find here w.subs) as (λ (o : Option Submission). find here w.subs ≡ o → has_sub (option_to_list (option_map (λ (t : Submission). sub_of t) o)) (sub_of s) ≡ is_on id s) [
      | None ↦ λ e. sym (none_at here w.subs s (sym (found here w.subs) ∙ ap is_some e) c) ∙ ap (λ (t : Bool). t && is_on id s) waits
      | Some r ↦ λ e. let at = find_at here w.subs r e in
          or_none (same_sub (sub_of s) (sub_of r))
          ∙ same_tests (same_sub (sub_of s) (sub_of r)) (is_on id s)
          (λ same. ap (is_on id) (apart w h s r c at.0 same) ∙ (and_parts (is_waiting r) (is_on id r) at.1).1)
          (λ on.
          let n = contains_at w.subs s c in
          let m = contains_at w.subs r at.0 in
          let parts = and_parts (is_waiting r) (is_on id r) at.1 in
          let place = one_place (λ (t : Submission). is_on id t && is_waiting t) w.subs n.0 m.0 s r (h.states.one_waits id) n.1 m.1
          (and_from (is_on id s) (is_waiting s) on waits) (and_from (is_on id r) (is_waiting r) parts.1 parts.0) in
          ap (λ (t : Submission). same_sub (sub_of s) (sub_of t)) (sym (at_same w.subs n.0 m.0 s r n.1 m.1 place)) ∙ own_sub (sub_of s))
    ] refl
  where
    here : Submission → Bool
    here t = is_waiting t && is_on id t

-- those that pass a test are dropped
abbrev pub dropping : (Submission → Bool) → Submission → Submission
dropping t s = cond (t s) (record s { state = Dropped }) s

and_none : (a : Bool) → false ≡ (a && false)
and_none a = grind (arith, nat_tests)

and_all : (a : Bool) → a ≡ (a && true)
and_all a = grind (arith, nat_tests)

stays_by : (met : SurfaceId → Bool) (tick : ℕ) (s : Submission) (b : Bool) → stays met tick (cond b (record s { state = Dropped }) s) ≡ (stays met tick s && not b)
stays_by met tick s b = grind (arith, nat_tests, and_none (stays met tick s), stays met tick s, and_all (stays met tick s))

alike_after : (a x u v : Bool) → (a ≡ true → u ≡ v) → ((a && x) && not u) ≡ ((a && x) && not v)
alike_after a x u v h = grind (arith, nat_tests)

module _ (w : World) (id : SurfaceId) (t : Submission → Bool) (h : KeepsAlways w) (same : (s : Submission) → is_waiting s ≡ true → t s ≡ is_on id s) where
  abbrev gone : List Sub
  gone = option_to_list (waiting_on w id)

  -- the test of those that wait on
  abbrev left : (SurfaceId → Bool) → ℕ → Submission → Bool
  left met tick s = stays met tick s && not (t s)

  less : (met : SurfaceId → Bool) (tick : ℕ) (s : Submission) → Contains w.subs s → (stays met tick s && not (has_sub gone (sub_of s))) ≡ left met tick s
  less met tick s c = alike_after (is_waiting s) _ (has_sub gone (sub_of s)) (t s) (λ waits. gone_is w id s h c waits ∙ sym (same s waits))

  pub stand_dropped : (met : SurfaceId → Bool) (tick : ℕ) (bs : List Blocked) (ds : List Due) → Stand met tick w.subs bs ds
      → Stand met tick (map (dropping t) w.subs) (blocked_without (option_to_list (waiting_on w id)) bs) (due_without (option_to_list (waiting_on w id)) ds)
  stand_dropped met tick bs ds stand =
      record {
        blocked =
            ap (blocked_without gone) stand.blocked
            ∙ (blocked_less met (stays met tick) (left met tick) gone w.subs (less met tick)
            ∙ sym (filter_changed (dropping t) (blocked_of met) (stays met tick) (left met tick) w.subs (λ s c. stays_by met tick s (t s))
            (λ s e. when_same (blocked_of met) (λ s. record s { state = Dropped }) (t s) s refl)));
        due =
            ap (due_without gone) stand.due
            ∙ (due_less (stays met tick) (left met tick) gone w.subs (less met tick)
            ∙ sym (filter_changed (dropping t) due_of (stays met tick) (left met tick) w.subs (λ s c. stays_by met tick s (t s))
            (λ s e. when_same due_of (λ s. record s { state = Dropped }) (t s) s refl)));
      }

pub drops_leave : (t : Submission → Bool) → LeavesActive (dropping t)
drops_leave t = grind (arith, nat_tests, when_same)

-- A surface is destroyed

ends_there : (a b o : Bool) → a ≡ true → ((a || b) && (o || false)) ≡ o
ends_there a b o h = grind (arith, nat_tests, or_none o)

pub waits_gone : (w : World) (c : Surface) (old new : Waits) (sub : Option Sub) → KeepsAlways w → AreWaiting w old → sub ≡ waiting_on w c.id
    → new.blocked ≡ blocked_without (option_to_list sub) old.blocked → new.due ≡ due_without (option_to_list sub) old.due → AreWaiting (going c w) new
unfolding going
waits_gone w c old new sub h r told e f =
    let t : Submission → Bool = λ s. (is_waiting s || is_active s) && (is_on c.id s || false) in
    let v = going c w in
    let stand = stand_dropped w c.id t h (λ s waits. ends_there (is_waiting s) (is_active s) (is_on c.id s) waits) (is_met w) w.tick old.blocked old.due (stand_of w old r) in
    let stand' : Stand (is_met w) w.tick (map (dropping t) w.subs) new.blocked new.due =
    record { blocked = e ∙ (ap (λ o. blocked_without (option_to_list o) old.blocked) told ∙ stand.blocked); due = f ∙ (ap (λ o. due_without (option_to_list o) old.due) told ∙ stand.due) } in
    let met : is_met v ≡ is_met w =
    met_is v ∙ (ap (met_by (map (dropping t) w.subs)) (sym (map-id w.clients)) ∙ (met_alike (dropping t) (λ x. x) w.subs w.clients (drops_leave t) closes_plain ∙ sym (met_is w))) in
    waiting_from v new (stand_alike (is_met w) (is_met v) w.tick v.tick (map (dropping t) w.subs) v.subs new.blocked new.due met refl refl stand')
