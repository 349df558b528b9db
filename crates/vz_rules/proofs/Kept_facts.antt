-- What follows from what is kept, in the words of those who use it.
use Rattle.std.proofs.Common.{◌≡◌, ℕ, ◌+◌, ◌<◌, ◌≤◌, Bool, true, false, ◌||◌, ◌==◌, ◌⊎◌, inl, inr, Some, List, [], ◌∷◌, filter, refl, ap, sym, ◌∙◌, arith, cond, slice_get, Contains, count_by, sum_by}
use Rattle.std.specs.Prelude.{nat_le}
use Rattle.std.specs.List.{list_any, list_all}
use Rattle.std.proofs.lemmas.Bool.{leb-false, and_from, both_ways, eqb-true, eq-eqb, false_from_ne_true, or_parts}
use Rattle.vz_ids.specs.declared.SurfaceId.{SurfaceId}
use Rattle.vz_ids.specs.Ids.{same_sink, same_surface, same_sub}
use Rattle.vz_rules.specs.World.{World, Client, Surface, FrameData, Resource, Submission, active_frames, frame_on, is_waiting, is_active, is_on, is_in_flight, sub_of}
use Rattle.vz_rules.specs.Settle.{is_met, has_come, is_ready, ready}
use Rattle.vz_rules.specs.Reach.{has_id, reach, is_lost, lost_in}
use Rattle.vz_rules.specs.Returns.{holds, is_held}
use Rattle.vz_rules.specs.Kept.{KeepsAlways, Keeps, is_open, last_in, holds_of, out_of, count_of}
use Rattle.vz_rules.proofs.Reached.{self_same, from_same_sink}
use Rattle.vz_rules.proofs.Members.{map_contains, filter_has, contains_here, contains_there, contains_cases, contains_none, contains_map, contains_at, at_same, any_at, all_at, filter_at, none_filtered}
use Rattle.vz_rules.proofs.Counts.{count_at, one_place}
use Rattle.vz_rules.proofs.Kept_last.{last_at, one_owner, earlier_is_less, surfaces_differ}
use Rattle.vz_rules.proofs.Kept_accepted.{subs_differ}
use Rattle.vz_rules.proofs.Kept_states.{on_and}
use Rattle.vz_rules.proofs.Kept_reach.{not_lost}

-- Names

pub surfaces_apart : (w : World) (n m : ℕ) (s t : Surface) → KeepsAlways w → slice_get w.surfaces n ≡ Some s → slice_get w.surfaces m ≡ Some t
    → same_surface s.id t.id ≡ true → n ≡ m
surfaces_apart w n m s t h p q e = surfaces_differ w.clients w.surfaces h.clients h.surfaces n m s t p q e

pub subs_apart : (w : World) (n m : ℕ) (s t : Submission) → KeepsAlways w → slice_get w.subs n ≡ Some s → slice_get w.subs m ≡ Some t
    → same_sub (sub_of s) (sub_of t) ≡ true → n ≡ m
subs_apart w n m s t h p q e = subs_differ w.surfaces w.subs h.numbers n m s t p q e

pub owners_same : (w : World) (s t : Surface) → KeepsAlways w → Contains w.surfaces s → Contains w.surfaces t → same_sink s.id.sink t.id.sink ≡ true
    → s.client ≡ t.client
owners_same w s t h p q e = one_owner w.clients w.surfaces s t h.clients h.surfaces p q (from_same_sink s.id.sink t.id.sink e)

-- the last surface of a client has the greatest number
pub last_is_greatest : (w : World) (c : ℕ) (s t : Surface) → KeepsAlways w → last_in w.surfaces c ≡ Some s → Contains w.surfaces t → t.client ≡ c
    → t.number ≤ s.number
last_is_greatest w c s t h e q same =
    let at = last_at (λ (x : Surface). x.client == c) w.surfaces s e in
    let n = contains_at w.surfaces t q in
    earlier_is_less w.clients w.surfaces n.0 at.0 t s h.surfaces n.1 at.1.0 (same ∙ sym (eqb-true s.client c at.1.1)) (at.1.2 n.0 t n.1 (eq-eqb t.client c same))

-- The active one

first_frame : (id : SurfaceId) (active : List FrameData) (i : FrameData) → Contains active i → same_surface i.id id ≡ true
    → (j : FrameData) × (frame_on id active ≡ Some j) × Contains active j × (same_surface j.id id ≡ true)
first_frame id [] i c e = absurd (contains_none i c)
first_frame id (x ∷ active) i c e =
    elim (same_surface x.id id) as (λ (t : Bool). same_surface x.id id ≡ t
    → (j : FrameData) × (cond t (Some x) (frame_on id active) ≡ Some j) × Contains (x ∷ active) j × (same_surface j.id id ≡ true)) [
      | true ↦ λ f. (x, refl, contains_here x active, f)
      | false ↦ λ f. elim (contains_cases x i active c) [
        | inl s ↦ absurd (both_ways (same_surface x.id id) f (ap (λ (k : FrameData). same_surface k.id id) s ∙ e))
        | inr m ↦ let r = first_frame id active i m e in (r.0, r.1, contains_there x r.0 active r.2, r.3)
      ]
    ] refl

frame_at : (subs : List Submission) (i : FrameData) → Contains (active_frames subs) i → (s : Submission) × Contains subs s × (is_active s ≡ true) × (s.submitted ≡ i)
frame_at subs i c =
    let m = contains_map (λ (s : Submission). s.submitted) (filter is_active subs) i c in
    let f = filter_at is_active subs m.0 m.1 in
    (m.0, f.0, f.1, m.2)

-- an active submission is the one that is seen on its surface
pub active_seen : (w : World) (s : Submission) → KeepsAlways w → Contains w.subs s → is_active s ≡ true
    → frame_on s.submitted.id (active_frames w.subs) ≡ Some s.submitted
active_seen w s h c e =
    let id = s.submitted.id in
    let here = map_contains (λ (x : Submission). x.submitted) (filter is_active w.subs) s (filter_has is_active w.subs s c e) in
    let j = first_frame id (active_frames w.subs) s.submitted here (self_same id) in
    let t = frame_at w.subs j.0 j.2 in
    let on : is_on id t.0 ≡ true = ap (λ (i : FrameData). same_surface i.id id) t.3 ∙ j.3 in
    let n = contains_at w.subs s c in
    let m = contains_at w.subs t.0 t.1 in
    let place = one_place (on_and is_active id) w.subs n.0 m.0 s t.0 (h.states.one_is_active id) n.1 m.1
    (and_from (is_on id s) (is_active s) (self_same id) e) (and_from (is_on id t.0) (is_active t.0) on t.2) in
    let same : s ≡ t.0 = at_same w.subs n.0 m.0 s t.0 n.1 m.1 place in
    j.1 ∙ ap (λ z. Some z) (sym t.3 ∙ ap (λ (x : Submission). x.submitted) (sym same))

-- Resources

pub totals_lent : (w : World) (c : Client) (s : Resource) → KeepsAlways w → Contains w.clients c → Contains c.resources s → s.lent ≡ s.queued + out_of s
totals_lent w c s h p q = let t = (h.shelves c p).totals s q in omega (arith, t.queued)

pub totals_queued : (w : World) (c : Client) (s : Resource) → KeepsAlways w → Contains w.clients c → Contains c.resources s
    → s.queued ≡ s.reclaimed + sum_by (count_of s.id) c.queue
totals_queued w c s h p q = ((h.shelves c p).totals s q).in_queue

some_holds : (p : Submission → Bool) (subs : List Submission) → list_any p subs ≡ true → 1 ≤ count_by p subs
some_holds p subs e =
    let m = any_at p subs e in
    let n = contains_at subs m.0 m.1 in
    omega (arith, count_at p subs n.0 m.0 n.1 m.2)

-- what is held is out
pub held_is_out : (w : World) (c : Client) (s : Resource) → KeepsAlways w → Contains w.clients c → Contains c.resources s → is_held w c.number s.id ≡ true
    → 1 ≤ out_of s
unfolding is_held
held_is_out w c s h p q e =
    let t = (h.shelves c p).totals s q in
    omega (arith, t.out, some_holds (holds_of (holds w) c.number s.id) w.subs e)

-- and between steps nothing else is
pub unheld_is_in : (w : World) (c : Client) (s : Resource) → Keeps w → Contains w.clients c → Contains c.resources s → is_held w c.number s.id ≡ false
    → out_of s ≡ 0
unheld_is_in w c s h p q e = omega (arith, h.none_out c s p q e)

-- Between steps

-- what waits has not come
pub waits_uncome : (w : World) (s : Submission) → Keeps w → Contains w.subs s → is_waiting s ≡ true → has_come w s ≡ false
unfolding ready is_ready
waits_uncome w s h c e =
    false_from_ne_true (has_come w s) (λ k. both_ways (is_ready w s) (none_filtered (is_ready w) w.subs s h.none_ready c) (and_from (is_waiting s) (has_come w s) e k))

-- some dependency of it is not met, and its deadline is to come
pub waits_on : (w : World) (s : Submission) → Keeps w → Contains w.subs s → is_waiting s ≡ true
    → (list_all (is_met w) s.submitted.frame.metadata.dependencies ≡ false) × (w.tick < s.due)
unfolding has_come
waits_on w s h c e =
    let none = or_parts (list_all (is_met w) s.submitted.frame.metadata.dependencies) (nat_le s.due w.tick) (waits_uncome w s h c e) in
    (none.0, leb-false s.due w.tick none.1)

-- what is marked and exists is reached
pub marked_reached : (w : World) (s : Surface) → Keeps w → Contains w.surfaces s → s.marked ≡ true → s.destroyed ≡ false → has_id (reach w) s.id ≡ true
unfolding lost_in
marked_reached w s h c m d = not_lost s.marked s.destroyed (has_id (reach w) s.id) (none_filtered (is_lost (reach w)) w.surfaces s h.none_lost c) m d

open_by : (fed waits acts flies : Bool) → (fed || waits || acts || flies) ≡ true → fed ≡ false → ((waits || acts) ≡ true) ⊎ (flies ≡ true)
open_by true waits acts flies e f = absurd (cc)
open_by false true acts flies e f = inl refl
open_by false false true flies e f = inl refl
open_by false false false flies e f = inr e

-- what has no feedback is waiting, active or in flight
pub unfed_open : (w : World) (s : Submission) → Keeps w → Contains w.subs s → s.fed ≡ false → (is_open s ≡ true) ⊎ (is_in_flight w.in_flight (sub_of s) ≡ true)
unfed_open w s h c e =
    open_by s.fed (is_waiting s) (is_active s) (is_in_flight w.in_flight (sub_of s))
    (all_at (λ (x : Submission). x.fed || is_waiting x || is_active x || is_in_flight w.in_flight (sub_of x)) w.subs s h.open_ones c) e
