-- Rectangles as sets of points: which points shared, moved and enclosing ones have.
use Rattle.std.proofs.Common.{◌≡◌, ℤ, pos, ◌+ℤ◌, ◌≤ℤ◌, ◌<ℤ◌, int_le, int_lt, Bool, true, false, ◌&&◌, ◌||◌, refl, sym, arith, cond}
use Rattle.std.specs.Int.{int_max}
use Rattle.std.proofs.lemmas.Int.{ints, clamps, by_lt_z}
use Rattle.vz_geom.specs.declared.Point.{Point}
use Rattle.vz_geom.specs.Rectangle.{Rectangle, has, plus, meet, moved, no_rectangle, shared, with_sides}

pub both : (a b : Bool) → (a && b) ≡ true → (a ≡ true) × (b ≡ true)
both true b h = (refl, h)
both false b h = absurd (cc)

pub and_true : (a b : Bool) → a ≡ true → b ≡ true → (a && b) ≡ true
and_true a b p q = rw (p, q)

pub le_true : (a b : ℤ) → int_le a b ≡ true → a ≤ℤ b
le_true a b h = grind (arith, ints)

pub lt_true : (a b : ℤ) → int_lt a b ≡ true → a <ℤ b
lt_true a b h = grind (arith, ints)

pub true_le : (a b : ℤ) → a ≤ℤ b → int_le a b ≡ true
true_le a b h = grind (arith, ints)

pub true_lt : (a b : ℤ) → a <ℤ b → int_lt a b ≡ true
true_lt a b h = grind (arith, ints)

pub lt_false : (a b : ℤ) → b ≤ℤ a → int_lt a b ≡ false
lt_false a b h = grind (arith, ints)

-- the point is in the rectangle
pub record IsIn (r : Rectangle) (p : Point) : Type 0 where
  pub left : r.x ≤ℤ p.x
  pub right : p.x <ℤ (r.x +ℤ r.w)
  pub top : r.y ≤ℤ p.y
  pub bottom : p.y <ℤ (r.y +ℤ r.h)

pub to_in : (r : Rectangle) (p : Point) → has r p ≡ true → IsIn r p
to_in r p h =
    let xy = both (int_le r.x p.x && int_lt p.x (r.x +ℤ r.w)) (int_le r.y p.y && int_lt p.y (r.y +ℤ r.h)) h in
    let x = both (int_le r.x p.x) (int_lt p.x (r.x +ℤ r.w)) xy.0 in
    let y = both (int_le r.y p.y) (int_lt p.y (r.y +ℤ r.h)) xy.1 in
    record { left = le_true _ _ x.0; right = lt_true _ _ x.1; top = le_true _ _ y.0; bottom = lt_true _ _ y.1 }

four : (a b c d : Bool) → a ≡ true → b ≡ true → c ≡ true → d ≡ true → ((a && b) && (c && d)) ≡ true
four a b c d p q r s = rw (p, q, r, s)

pub of_in : (r : Rectangle) (p : Point) → IsIn r p → has r p ≡ true
of_in r p h =
    four (int_le r.x p.x) (int_lt p.x (r.x +ℤ r.w)) (int_le r.y p.y) (int_lt p.y (r.y +ℤ r.h))
    (true_le _ _ h.left) (true_lt _ _ h.right) (true_le _ _ h.top) (true_lt _ _ h.bottom)

-- both sides are at least 1
pub full_sides : (x y w h : ℤ) → pos 1 ≤ℤ w → pos 1 ≤ℤ h → with_sides x y w h ≡ record { x = x; y = y; w = w; h = h }
unfolding with_sides
full_sides x y w h p q = rw (lt_false w (pos 1) p, lt_false h (pos 1) q)

first_true : (a b : Bool) → a ≡ true → (a || b) ≡ true
first_true a b p = rw p

second_true : (a b : Bool) → b ≡ true → (a || b) ≡ true
second_true true b p = refl
second_true false b p = p

-- a side is not positive
pub no_width : (x y w h : ℤ) → w <ℤ pos 1 → with_sides x y w h ≡ no_rectangle
unfolding with_sides
no_width x y w h p = rw (first_true (int_lt w (pos 1)) (int_lt h (pos 1)) (true_lt w (pos 1) p))

pub no_height : (x y w h : ℤ) → h <ℤ pos 1 → with_sides x y w h ≡ no_rectangle
unfolding with_sides
no_height x y w h p = rw (second_true (int_lt w (pos 1)) (int_lt h (pos 1)) (true_lt h (pos 1) p))

-- what holds where both sides are positive, and where the rectangle is the empty one, holds
pub by_sides : {P : Type 0} (w h : ℤ) → (pos 1 ≤ℤ w → pos 1 ≤ℤ h → P) → (w <ℤ pos 1 → P) → (h <ℤ pos 1 → P) → P
by_sides w h full narrow low = by_lt_z w (pos 1) narrow (λ p. by_lt_z h (pos 1) low (λ q. full p q))

pub in_sides : (x y w h : ℤ) (p : Point) → IsIn (record { x = x; y = y; w = w; h = h }) p → has (with_sides x y w h) p ≡ true
in_sides x y w h p i =
    let wide : pos 1 ≤ℤ w = omega (arith, ints) in
    let high : pos 1 ≤ℤ h = omega (arith, ints) in
    rw (full_sides x y w h wide high) (of_in (record { x = x; y = y; w = w; h = h }) p i)

not_in_none : (p : Point) → IsIn no_rectangle p → ⊥
not_in_none p i = omega (arith, ints)

sides_by : (x y w h : ℤ) (p : Point) (t : Bool) → IsIn (cond t no_rectangle (record { x = x; y = y; w = w; h = h })) p → IsIn (record { x = x; y = y; w = w; h = h }) p
sides_by x y w h p true i = absurd (not_in_none p i)
sides_by x y w h p false i = i

pub of_sides : (x y w h : ℤ) (p : Point) → has (with_sides x y w h) p ≡ true → IsIn (record { x = x; y = y; w = w; h = h }) p
unfolding with_sides
of_sides x y w h p e =
    sides_by x y w h p (int_lt w (pos 1) || int_lt h (pos 1))
    (to_in (cond (int_lt w (pos 1) || int_lt h (pos 1)) no_rectangle (record { x = x; y = y; w = w; h = h })) p e)

-- two tests are the same where each is true if the other is
pub same_test : (a b : Bool) → (a ≡ true → b ≡ true) → (b ≡ true → a ≡ true) → a ≡ b
same_test true b f g = sym (f refl)
same_test false true f g = g refl
same_test false false f g = refl

-- a moved point is in the moved rectangle exactly where the point is in the rectangle
pub has_moved_is : (r : Rectangle) (by q : Point) → has (moved r by) (plus q by) ≡ has r q
unfolding moved
has_moved_is r by q =
    same_test (has (moved r by) (plus q by)) (has r q)
    (λ e. let i : IsIn (record { x = r.x +ℤ by.x; y = r.y +ℤ by.y; w = r.w; h = r.h }) (plus q by) = of_sides (r.x +ℤ by.x) (r.y +ℤ by.y) r.w r.h (plus q by) e in
    of_in r q (record { left = omega (arith, ints); right = omega (arith, ints); top = omega (arith, ints); bottom = omega (arith, ints) }))
    (λ e. let i : IsIn r q = to_in r q e in
    in_sides (r.x +ℤ by.x) (r.y +ℤ by.y) r.w r.h (plus q by)
    (record { left = omega (arith, ints); right = omega (arith, ints); top = omega (arith, ints); bottom = omega (arith, ints) }))

-- a point is in the shared part exactly where it is in both
pub has_meet_is : (a b : Rectangle) (p : Point) → has (meet a b) p ≡ (has a p && has b p)
unfolding meet
has_meet_is a b p =
    same_test (has (meet a b) p) (has a p && has b p)
    (λ e. let i : IsIn (record { x = int_max a.x b.x; y = int_max a.y b.y; w = shared a.x (a.x +ℤ a.w) b.x (b.x +ℤ b.w); h = shared a.y (a.y +ℤ a.h) b.y (b.y +ℤ b.h) }) p =
    of_sides (int_max a.x b.x) (int_max a.y b.y) (shared a.x (a.x +ℤ a.w) b.x (b.x +ℤ b.w)) (shared a.y (a.y +ℤ a.h) b.y (b.y +ℤ b.h)) p e in
    and_true (has a p) (has b p)
    (of_in a p (record { left = omega (arith, ints, clamps); right = omega (arith, ints, clamps); top = omega (arith, ints, clamps); bottom = omega (arith, ints, clamps) }))
    (of_in b p (record { left = omega (arith, ints, clamps); right = omega (arith, ints, clamps); top = omega (arith, ints, clamps); bottom = omega (arith, ints, clamps) })))
    (λ e. let k = both (has a p) (has b p) e in
    let i : IsIn a p = to_in a p k.0 in
    let j : IsIn b p = to_in b p k.1 in
    in_sides (int_max a.x b.x) (int_max a.y b.y) (shared a.x (a.x +ℤ a.w) b.x (b.x +ℤ b.w)) (shared a.y (a.y +ℤ a.h) b.y (b.y +ℤ b.h)) p
    (record { left = omega (arith, ints, clamps); right = omega (arith, ints, clamps); top = omega (arith, ints, clamps); bottom = omega (arith, ints, clamps) }))
