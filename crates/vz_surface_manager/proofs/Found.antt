-- What a store finds for the machine's state.
use Rattle.std.proofs.Common.{◌≡◌, Bool, true, false, ◌&&◌, Option, Some, None, List, [], ◌∷◌, find, refl, ap, sym, ◌∙◌, cond, ◌||◌, Contains, is_some, arith}
use Rattle.std.specs.{Option.option_map, List.list_any}
use Rattle.std.proofs.{lemmas.Bool.and_from, lemmas.Bool.and_parts, lemmas.Bool.both_ways, lemmas.Bool.Decides.nat_tests}
use Rattle.vz_ids.specs.{declared.SurfaceId.SurfaceId, Ids.same_sub}
use Rattle.vz_frame.specs.{declared.rules.Rule.Rule, Frame.first_broken, Frame.breaks}
use Rattle.vz_rules.specs.World.{World, Client, Surface, Submission, FrameData, is_waiting, is_active, is_on, sub_of}
use Rattle.vz_rules.specs.Kept.{KeepsAlways, IsWhole}
use Rattle.vz_rules.proofs.Members.{map_contains, contains_at, at_same, any_from, find_at, found, none_at, at_contains}
use Rattle.vz_rules.proofs.{Counts.one_place, Reached.self_same, Kept_singly.own_sub}
use Rattle.vz_surfaces.specs.{declared.held.Held.Held, Memory.is_waiting_in}
use Rattle.vz_surfaces.specs.{Stored.Stored, Stored.stored_of, Stored.bare_sub, Reading.held_of, Reading.active_on, Reading.waiting_at}
use Rattle.vz_surfaces.proofs.Telling.{tells_acting, tells_waiting}
use Rattle.vz_returns.specs.Listed.{lists_twice, listed_by}
use Rattle.vz_surface_manager.specs.{Live.AreWhole, Ended_subs.listings_of}

-- the frame of a submission that is found
abbrev pub frame_of : Option Submission → Option Held
frame_of o = option_map held_of (option_map (λ (s : Submission). s.submitted) o)

pub acts_in : (w : World) (st : Stored) (id : SurfaceId) (o : Option Held) → KeepsAlways w → st ≡ stored_of w → o ≡ option_map held_of (active_on st id)
    → o ≡ frame_of (find (λ s. is_active s && is_on id s) w.subs)
acts_in w st id o h is e = grind (arith, nat_tests, tells_acting w id h)

pub waits_in : (w : World) (st : Stored) (id : SurfaceId) (o : Option Held) → KeepsAlways w → st ≡ stored_of w → o ≡ option_map held_of (waiting_at st id)
    → o ≡ frame_of (find (λ s. is_waiting s && is_on id s) w.subs)
waits_in w st id o h is e = grind (arith, nat_tests, tells_waiting w id h)

-- what it lists
pub listings_read : (o : Option Submission) → listings_of (frame_of o) ≡ listed_by o
listings_read o = grind (arith, nat_tests)

-- accepted frames list no resource twice
none_found : (p : Rule → Bool) (r : Rule) (rules : List Rule) → find p rules ≡ None → Contains rules r → p r ≡ false
none_found p r rules e c = none_at p rules r (by_find rules e) c
  where
    by_find : (rs : List Rule) → find p rs ≡ None → list_any p rs ≡ false
    by_find [] f = refl
    by_find (x ∷ rs) f = elim (p x) as (λ (t : Bool). ◌≡◌ {A = Option Rule} (cond t (Some x) (find p rs)) None → (t || list_any p rs) ≡ false) [
      | true ↦ λ g. absurd (cc)
      | false ↦ λ g. by_find rs g
    ] f

pub whole_once : (i : FrameData) → IsWhole i → lists_twice i.frame.resources ≡ false
unfolding first_broken breaks
whole_once i h = grind (arith, nat_tests, none_found, at_contains)

pub found_once : (p : Submission → Bool) (subs : List Submission) → AreWhole subs → lists_twice (listed_by (find p subs)) ≡ false
found_once p subs h = grind (arith, nat_tests, whole_once, find_at)

-- the client of a submission, and of a surface
pub client_of_surface : (w : World) (c : Surface) → KeepsAlways w → Contains w.surfaces c → (x : Client) × Contains w.clients x × (x.number ≡ c.client)
client_of_surface w c h k = let x = h.surfaces.of_clients c k in (x.0, x.1, x.2)

pub client_of : (w : World) (s : Submission) → KeepsAlways w → Contains w.subs s → (x : Client) × Contains w.clients x × (x.number ≡ s.submitted.sub.client)
client_of w s h k =
    let made = h.numbers.created s k in
    let x = client_of_surface w made.0 h made.1 in
    (x.0, x.1, x.2 ∙ made.3)

-- of a surface one at most waits
pub one_waits : (w : World) (s t : Submission) → KeepsAlways w → Contains w.subs s → is_waiting s ≡ true → Contains w.subs t → is_waiting t ≡ true → is_on s.submitted.id t ≡ true → t ≡ s
one_waits w s t h here waits there e on =
    let n = contains_at w.subs t there in
    let m = contains_at w.subs s here in
    let both : Submission → Bool = λ x. is_on s.submitted.id x && is_waiting x in
    at_same w.subs n.0 m.0 t s n.1 m.1
    (one_place both w.subs n.0 m.0 t s (h.states.one_waits s.submitted.id) n.1 m.1
    (and_from (is_on s.submitted.id t) (is_waiting t) on e) (and_from (is_on s.submitted.id s) (is_waiting s) (self_same s.submitted.id) waits))

-- the submission that waits on a surface is the one that is found there
pub waits_alone : (w : World) (s : Submission) → KeepsAlways w → Contains w.subs s → is_waiting s ≡ true → find (λ t. is_waiting t && is_on s.submitted.id t) w.subs ≡ Some s
waits_alone w s h here waits = by (find (λ t. is_waiting t && is_on s.submitted.id t) w.subs) refl
  where
    by : (o : Option Submission) → find (λ t. is_waiting t && is_on s.submitted.id t) w.subs ≡ o → o ≡ Some s
    by (Some t) e =
        let at = find_at (λ t. is_waiting t && is_on s.submitted.id t) w.subs t e in
        let parts = and_parts (is_waiting t) (is_on s.submitted.id t) at.1 in
        ap (λ z. Some z) (one_waits w s t h here waits at.0 parts.0 parts.1)
    by None e =
        absurd (both_ways (list_any (λ t. is_waiting t && is_on s.submitted.id t) w.subs)
        (sym (found (λ t. is_waiting t && is_on s.submitted.id t) w.subs) ∙ ap is_some e)
        (any_from (λ t. is_waiting t && is_on s.submitted.id t) w.subs s here (and_from (is_waiting s) (is_on s.submitted.id s) waits (self_same s.submitted.id))))

-- it waits in the store
pub waits_stored : (w : World) (s : Submission) → Contains w.subs s → Contains (stored_of w).subs (bare_sub s)
unfolding stored_of
waits_stored w s c = map_contains bare_sub w.subs s c

pub is_waiting_there : (w : World) (st : Stored) (s : Submission) → st ≡ stored_of w → Contains w.subs s → is_waiting s ≡ true → is_waiting_in st (sub_of s) ≡ true
unfolding is_waiting_in
is_waiting_there w st s is c e =
    ap (λ (x : Stored). list_any (λ t. is_waiting t && same_sub (sub_of t) (sub_of s)) x.subs) is
    ∙ any_from (λ t. is_waiting t && same_sub (sub_of t) (sub_of s)) (stored_of w).subs (bare_sub s) (waits_stored w s c)
    (and_from (is_waiting s) (same_sub (sub_of s) (sub_of s)) e (own_sub (sub_of s)))
