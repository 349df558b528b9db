-- Which points the damage of a surface and the claims of a walk miss.
use Rattle.std.proofs.Common.{◌≡◌, Bool, true, false, ◌&&◌, Option, Some, None, List, [], ◌∷◌, map, filter, refl, ap, sym, ◌∙◌, Contains}
use Rattle.std.proofs.lemmas.Bool.{and_parts, false_from_ne_true, both_ways}
use Rattle.std.proofs.lemmas.List.Elements.{All-contains}
use Rattle.vz_geom.specs.declared.Point.{Point}
use Rattle.vz_geom.specs.Rectangle.{Rectangle, has, sized, meet, moved, bound, Covers}
use Rattle.vz_geom.proofs.Bounds.{bound_covers}
use Rattle.vz_geom.proofs.Sets.{has_moved_is, has_meet_is}
use Rattle.vz_ids.specs.declared.SurfaceId.{SurfaceId}
use Rattle.vz_ids.specs.declared.SurfaceRange.{SurfaceRange}
use Rattle.vz_ids.specs.Ids.{same_surface, same_start, same_range}
use Rattle.vz_frame.specs.Frame.{frame_size, root_damage}
use Rattle.vz_rules.specs.World.{FrameData, Aggregation}
use Rattle.vz_rules.specs.Walk.{Placement}
use Rattle.vz_rules.specs.Damage.{index_in, is_between, damage_since, damage_at}
use Rattle.vz_rules.proofs.Members.{contains_here, contains_there, map_contains, filter_has}
use Rattle.vz_rules.proofs.Reached.{from_same}
use Rattle.vz_rules.proofs.Same.{IsSeen}
use Rattle.vz_rules.proofs.Agree.{Misses}

-- Ranges

same_starts : (a b : Option SurfaceId) → same_start a b ≡ true → a ≡ b
same_starts None None h = refl
same_starts (Some a) (Some b) h = ap Some (from_same a b h)
same_starts _ _ h = absurd (cc)

-- ranges that are the same are one
pub range_is : (a b : SurfaceRange) → same_range a b ≡ true → a ≡ b
range_is a b h =
    let both = and_parts (same_start a.start b.start) (same_surface a.end b.end) h in
    let start = same_starts a.start b.start both.0 in
    let end = from_same a.end b.end both.1 in
    ap (λ (s : Option SurfaceId). record { start = s; end = a.end }) start ∙ ap (λ (e : SurfaceId). record { start = b.start; end = e }) end

-- Bounds

-- a rectangle round several has the points of each
pub in_bound : (rs : List Rectangle) (r : Rectangle) (p : Point) → Contains rs r → has r p ≡ true → has (bound rs) p ≡ true
in_bound rs r p c h = All-contains (Covers (bound rs)) rs r (bound_covers rs) c p h

-- what it misses each of them misses
pub not_in : (rs : List Rectangle) (r : Rectangle) (p : Point) → Contains rs r → has (bound rs) p ≡ false → has r p ≡ false
not_in rs r p c h = false_from_ne_true (has r p) (λ e. both_ways (has (bound rs) p) h (in_bound rs r p c e))

misses_each : (rs : List Rectangle) (p : Point) → ((r : Rectangle) → Contains rs r → has r p ≡ false) → Misses p rs
misses_each [] p h = tt
misses_each (r ∷ rs) p h = (h r (contains_here r rs), misses_each rs p (λ s c. h s (contains_there r s rs c)))

pub bound_misses : (rs : List Rectangle) (p : Point) → has (bound rs) p ≡ false → Misses p rs
bound_misses rs p h = misses_each rs p (λ r c. not_in rs r p c h)

-- Damage

-- a submission between the two misses what the damage of its surface misses
pub since_misses : (a : Aggregation) (accepted : List FrameData) (j : FrameData) (l : Point) → has (damage_since a accepted j) l ≡ false
    → (u : FrameData) → Contains accepted u → is_between (index_in a j) j u ≡ true → has (root_damage u.frame) l ≡ false
unfolding damage_since
since_misses a accepted j l h u c e =
    not_in (map (λ x. root_damage x.frame) (filter (is_between (index_in a j) j) accepted)) (root_damage u.frame) l
    (map_contains (λ x. root_damage x.frame) (filter (is_between (index_in a j) j) accepted) u (filter_has (is_between (index_in a j) j) accepted u c e)) h

by_parts : (w s d : Bool) → w ≡ true → s ≡ true → ((w && s) && d) ≡ false → d ≡ false
by_parts true true d p q h = h
by_parts _ _ d p q h = absurd (cc)

-- at a point of its surface that is seen, the damage misses what it misses as seen there
pub since_clear : (a : Aggregation) (accepted : List FrameData) (j : FrameData) (l P : Point) (place : Placement) → IsSeen P l place → has (sized (frame_size j.frame)) l ≡ true
    → has (damage_at a accepted j place) P ≡ false → has (damage_since a accepted j) l ≡ false
since_clear a accepted j l P place seen shown h =
    let here : Rectangle = moved (sized (frame_size j.frame)) place.shift in
    let since : Rectangle = damage_since a accepted j in
    let on : has here P ≡ true = ap (has here) (sym seen.stays) ∙ (has_moved_is (sized (frame_size j.frame)) place.shift l ∙ shown) in
    let parts : has (damage_at a accepted j place) P ≡ ((has place.window P && has here P) && has (moved since place.shift) P) =
    has_meet_is (meet place.window here) (moved since place.shift) P ∙ ap (λ t. t && has (moved since place.shift) P) (has_meet_is place.window here P) in
    sym (has_moved_is since place.shift l)
    ∙ (ap (has (moved since place.shift)) seen.stays
    ∙ by_parts (has place.window P) (has here P) (has (moved since place.shift) P) seen.inside on (sym parts ∙ h))
