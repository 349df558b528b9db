-- Rectangles that are values of the type: edges within the limit, and all numbers 0 where a side is.
use Rattle.std.proofs.Common.{ℤ, ◌+ℤ◌, ◌-ℤ◌, refl, sym, arith, subst, List, [], ◌∷◌}
use Rattle.std.specs.List.{All}
use Rattle.std.specs.Int.{int_max, int_min}
use Rattle.std.proofs.lemmas.List.Elements.{All-head, All-tail}
use Rattle.std.proofs.lemmas.Int.{ints, clamps}
use Rattle.vz_geom.specs.declared.Point.{Point}
use Rattle.vz_geom.specs.Rectangle.{Rectangle, IsRectangle, HasEdges, with_sides, no_rectangle, meet, hull, join, bound, moved, shared}
use Rattle.vz_geom.proofs.Sets.{full_sides, no_width, no_height, by_sides}
use Rattle.vz_geom.proofs.Bounds.{by_full, join_first, join_second, join_both}

none_is_proper : IsRectangle no_rectangle
unfolding with_sides
none_is_proper =
    record {
      edges = record { left = omega (arith, ints); top = omega (arith, ints); right = omega (arith, ints); bottom = omega (arith, ints) };
      wide = omega (arith, ints);
      high = omega (arith, ints);
      own = refl;
    }

-- a rectangle between edges within the limit
pub sides_are_proper : (x y w h : ℤ) → HasEdges (record { x = x; y = y; w = w; h = h }) → IsRectangle (with_sides x y w h)
sides_are_proper x y w h edges =
    by_sides {P = IsRectangle (with_sides x y w h)} w h
    (λ p q. subst IsRectangle (sym (full_sides x y w h p q)) (record { edges = edges; wide = omega (arith, ints); high = omega (arith, ints); own = full_sides x y w h p q }))
    (λ p. subst IsRectangle (sym (no_width x y w h p)) none_is_proper)
    (λ p. subst IsRectangle (sym (no_height x y w h p)) none_is_proper)

meet_edges : (a b : Rectangle) → HasEdges a → HasEdges b
    → HasEdges (record { x = int_max a.x b.x; y = int_max a.y b.y; w = shared a.x (a.x +ℤ a.w) b.x (b.x +ℤ b.w); h = shared a.y (a.y +ℤ a.h) b.y (b.y +ℤ b.h) })
meet_edges a b p q =
    record { left = omega (arith, ints, clamps); top = omega (arith, ints, clamps); right = omega (arith, ints, clamps); bottom = omega (arith, ints, clamps) }

pub meet_is_proper : (a b : Rectangle) → IsRectangle a → IsRectangle b → IsRectangle (meet a b)
unfolding meet
meet_is_proper a b p q = sides_are_proper _ _ _ _ (meet_edges a b p.edges q.edges)

hull_edges : (a b : Rectangle) → HasEdges a → HasEdges b
    → HasEdges (record { x = int_min a.x b.x; y = int_min a.y b.y; w = int_max (a.x +ℤ a.w) (b.x +ℤ b.w) -ℤ int_min a.x b.x; h = int_max (a.y +ℤ a.h) (b.y +ℤ b.h) -ℤ int_min a.y b.y })
hull_edges a b p q =
    record { left = omega (arith, ints, clamps); top = omega (arith, ints, clamps); right = omega (arith, ints, clamps); bottom = omega (arith, ints, clamps) }

hull_is_proper : (a b : Rectangle) → IsRectangle a → IsRectangle b → IsRectangle (hull a b)
unfolding hull
hull_is_proper a b p q = sides_are_proper _ _ _ _ (hull_edges a b p.edges q.edges)

pub join_is_proper : (a b : Rectangle) → IsRectangle a → IsRectangle b → IsRectangle (join a b)
join_is_proper a b p q =
    by_full {P = IsRectangle (join a b)} a
    (λ e. subst IsRectangle (sym (join_first a b e)) q)
    (λ e. by_full {P = IsRectangle (join a b)} b
    (λ k. subst IsRectangle (sym (join_second a b e k)) p)
    (λ k. subst IsRectangle (sym (join_both a b e k)) (hull_is_proper a b p q)))

pub bound_is_proper : (rs : List Rectangle) → All IsRectangle rs → IsRectangle (bound rs)
unfolding bound
bound_is_proper [] all = none_is_proper
bound_is_proper (r ∷ rs) all =
    join_is_proper r (bound rs) (All-head IsRectangle r rs all) (bound_is_proper rs (All-tail IsRectangle r rs all))

pub moved_is_proper : (r : Rectangle) (by : Point) → HasEdges (record { x = r.x +ℤ by.x; y = r.y +ℤ by.y; w = r.w; h = r.h }) → IsRectangle (moved r by)
unfolding moved
moved_is_proper r by edges = sides_are_proper _ _ _ _ edges
