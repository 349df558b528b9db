-- The smallest rectangle round some in reach, and the damages of frames from one on.
use Rattle.std.proofs.Common.{◌≡◌, ℕ, ℤ, ◌+◌, ◌+ℤ◌, ◌-ℤ◌, ◌<◌, ◌≤◌, true, List, map, filter, drop, length, get_or, sym, ap, arith}
use Rattle.std.specs.Int.{int_min, int_max}
use Rattle.std.proofs.{lemmas.Int.ints, lemmas.Int.clamps, lemmas.List.drop_all, lemmas.List.drop_more, lemmas.Bool.Decides.nat_tests}
use Rattle.vz_geom.specs.Rectangle.{Rectangle, no_rectangle, with_sides, hull, join, bound}
use Rattle.vz_frame.specs.Frame.{root_damage}
use Rattle.vz_rules.specs.{World.FrameData, Damage.is_between}
use Rattle.vz_placement.specs.Limits.{IsInReach}
use Rattle.vz_placement.proofs.Sides.{nothing_in_reach}

sides_in_reach : (x y w h : ℤ) → IsInReach (record { x = x; y = y; w = w; h = h }) → IsInReach (with_sides x y w h)
unfolding with_sides
sides_in_reach x y w h is = grind (arith, nat_tests, nothing_in_reach)

hull_in_reach : (a b : Rectangle) → IsInReach a → IsInReach b → IsInReach (hull a b)
unfolding hull
hull_in_reach a b p q =
    let left = int_min a.x b.x in
    let top = int_min a.y b.y in
    let right = int_max (a.x +ℤ a.w) (b.x +ℤ b.w) in
    let bottom = int_max (a.y +ℤ a.h) (b.y +ℤ b.h) in
    sides_in_reach left top (right -ℤ left) (bottom -ℤ top)
    (record {
      first = record { left = omega (arith, ints, clamps); right = omega (arith, ints, clamps); top = omega (arith, ints, clamps); bottom = omega (arith, ints, clamps) };
      wide = omega (arith, ints, clamps);
      high = omega (arith, ints, clamps);
      right = omega (arith, ints, clamps);
      bottom = omega (arith, ints, clamps);
    })

-- the smallest rectangle round two in reach
pub join_in_reach : (a b : Rectangle) → IsInReach a → IsInReach b → IsInReach (join a b)
unfolding join
join_in_reach a b p q = grind (arith, nat_tests, hull_in_reach a b p q)

-- the damages of those frames from a place on that are between
abbrev pub damages_from : ℕ → FrameData → List FrameData → ℕ → List Rectangle
damages_from from i accepted k = map (λ (j : FrameData). root_damage j.frame) (filter (is_between from i) (drop k accepted))

-- one more to the front that is between
pub damages_step : (from : ℕ) (i : FrameData) (accepted : List FrameData) (k m : ℕ) (d : FrameData) (best new r : Rectangle) → m + 1 ≡ k → m < length accepted → is_between from i (get_or accepted m d) ≡ true
    → best ≡ bound (damages_from from i accepted k) → r ≡ root_damage (get_or accepted m d).frame → new ≡ join r best → new ≡ bound (damages_from from i accepted m)
unfolding bound
damages_step from i accepted k m d best new r e h between was damage is = grind (arith, nat_tests, drop_more accepted m d h)

-- behind the last there is none
pub damages_none : (from : ℕ) (i : FrameData) (accepted : List FrameData) (k : ℕ) → length accepted ≤ k → no_rectangle ≡ bound (damages_from from i accepted k)
unfolding bound
damages_none from i accepted k h = sym (ap (λ l. bound (map (λ (j : FrameData). root_damage j.frame) (filter (is_between from i) l))) (drop_all k accepted h))
