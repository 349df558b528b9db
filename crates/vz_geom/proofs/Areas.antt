-- The points of a rectangle: as many as its area says, and each once.
use Rattle.std.proofs.Common.{◌≡◌, ℕ, zero, suc, ◌+◌, ◌*◌, ℤ, pos, ◌+ℤ◌, ◌*ℤ◌, ◌≤ℤ◌, nat_abs, Bool, true, false, cond, List, ◌∷◌, ◌++◌, length, filter, length-append, refl, ap, sym, ◌∙◌, arith}
use Rattle.std.proofs.lemmas.Int.{ints, by_lt_z, unsigned_abs-mul}
use Rattle.std.proofs.lemmas.List.Elements.{filter-append}
use Rattle.vz_geom.specs.declared.Point.{Point}
use Rattle.vz_geom.specs.Rectangle.{Rectangle, IsRectangle, has, row_points, rows_from, points_in, unit, times_in, area_of}
use Rattle.vz_geom.proofs.Sets.{IsIn, to_in, of_in}

length_row : (n : ℕ) (x y : ℤ) → length (row_points n x y) ≡ n
length_row zero x y = refl
length_row (suc n) x y = ap suc (length_row n (x +ℤ pos 1) y)

length_rows : (n w : ℕ) (x y : ℤ) → length (rows_from n w x y) ≡ n * w
length_rows zero w x y = omega arith
length_rows (suc n) w x y =
    length-append (row_points w x y) (rows_from n w x (y +ℤ pos 1))
    ∙ (let one = length_row w x y in let more = length_rows n w x (y +ℤ pos 1) in let e : suc n * w ≡ w + n * w = grind arith in omega arith)

area_is : (w h : ℤ) → nat_abs h * nat_abs w ≡ nat_abs (w *ℤ h)
area_is w h = let e = unsigned_abs-mul w h in let f : nat_abs h * nat_abs w ≡ nat_abs w * nat_abs h = grind arith in f ∙ sym e

pub length_points : (r : Rectangle) → length (points_in r) ≡ area_of r
unfolding points_in area_of
length_points r = length_rows (nat_abs r.h) (nat_abs r.w) r.x r.y ∙ area_is r.w r.h

-- a rectangle of these sides
abbrev box : ℤ → ℤ → ℕ → ℕ → Rectangle
box x y w h = record { x = x; y = y; w = pos w; h = pos h }

abbrev one_if : Bool → ℕ
one_if t = cond t 1 0

not_true : (t : Bool) → (t ≡ true → ⊥) → t ≡ false
not_true true f = absurd (f refl)
not_true false f = refl

outside : (r : Rectangle) (p : Point) → (IsIn r p → ⊥) → has r p ≡ false
outside r p f = not_true (has r p) (λ e. f (to_in r p e))

-- the first point is there or not, and the rest are as before
counted : (t : Bool) (u : Point) (us : List Point) → length (cond t (u ∷ us) us) ≡ one_if t + length us
counted true u us = omega arith
counted false u us = omega arith

-- of two disjoint parts of a rectangle at most one has the point
split : (t u v : Bool) → (t ≡ true → u ≡ false) → (v ≡ true → (t ≡ false → u ≡ true)) → (t ≡ true → v ≡ true) → (u ≡ true → v ≡ true) → one_if t + one_if u ≡ one_if v
split true true v f g h k = let clash : true ≡ false = f refl in absurd (cc)
split true false v f g h k = rw (h refl) refl
split false true v f g h k = rw (k refl) refl
split false false true f g h k = let clash : false ≡ true = g refl refl in absurd (cc)
split false false false f g h k = refl

clash : {P : Type 0} (t : Bool) → t ≡ true → t ≡ false → P
clash t p q = absurd (cc)

-- of the columns from x on the first or a later one has the point
later_column : (n : ℕ) (x y : ℤ) (p : Point) → has (box x y (suc n) 1) p ≡ true → has (unit (record { x = x; y = y })) p ≡ false → has (box (x +ℤ pos 1) y n 1) p ≡ true
later_column n x y p e f =
    let i : IsIn (box x y (suc n) 1) p = to_in (box x y (suc n) 1) p e in
    by_lt_z {P = has (box (x +ℤ pos 1) y n 1) p ≡ true} x p.x
    (λ l. of_in (box (x +ℤ pos 1) y n 1) p (record { left = omega (arith, ints); right = omega (arith, ints); top = i.top; bottom = i.bottom }))
    (λ l. clash (has (unit (record { x = x; y = y })) p)
    (of_in (unit (record { x = x; y = y })) p (record { left = i.left; right = omega (arith, ints); top = i.top; bottom = i.bottom })) f)

row_once : (n : ℕ) (x y : ℤ) (p : Point) → times_in (row_points n x y) p ≡ one_if (has (box x y n 1) p)
row_once zero x y p = rw (outside (box x y 0 1) p (λ i. omega (arith, ints))) refl
row_once (suc n) x y p =
    let u : Point = record { x = x; y = y } in
    counted (has (unit u) p) u (filter (λ q. has (unit q) p) (row_points n (x +ℤ pos 1) y))
    ∙ ap (λ m. one_if (has (unit u) p) + m) (row_once n (x +ℤ pos 1) y p)
    ∙ split (has (unit u) p) (has (box (x +ℤ pos 1) y n 1) p) (has (box x y (suc n) 1) p)
    (λ e. let i : IsIn (unit u) p = to_in (unit u) p e in outside (box (x +ℤ pos 1) y n 1) p (λ j. omega (arith, ints)))
    (λ e f. later_column n x y p e f)
    (λ e. let i : IsIn (unit u) p = to_in (unit u) p e in
    of_in (box x y (suc n) 1) p (record { left = i.left; right = omega (arith, ints); top = i.top; bottom = i.bottom }))
    (λ e. let i : IsIn (box (x +ℤ pos 1) y n 1) p = to_in (box (x +ℤ pos 1) y n 1) p e in
    of_in (box x y (suc n) 1) p (record { left = omega (arith, ints); right = omega (arith, ints); top = i.top; bottom = i.bottom }))

-- of the rows from y on the first or a later one has the point
later_row : (n w : ℕ) (x y : ℤ) (p : Point) → has (box x y w (suc n)) p ≡ true → has (box x y w 1) p ≡ false → has (box x (y +ℤ pos 1) w n) p ≡ true
later_row n w x y p e f =
    let i : IsIn (box x y w (suc n)) p = to_in (box x y w (suc n)) p e in
    by_lt_z {P = has (box x (y +ℤ pos 1) w n) p ≡ true} y p.y
    (λ l. of_in (box x (y +ℤ pos 1) w n) p (record { left = i.left; right = i.right; top = omega (arith, ints); bottom = omega (arith, ints) }))
    (λ l. clash (has (box x y w 1) p)
    (of_in (box x y w 1) p (record { left = i.left; right = i.right; top = i.top; bottom = omega (arith, ints) })) f)

times-append : (ps qs : List Point) (p : Point) → times_in (ps ++ qs) p ≡ times_in ps p + times_in qs p
times-append ps qs p =
    ap length (filter-append (λ q. has (unit q) p) ps qs) ∙ length-append (filter (λ q. has (unit q) p) ps) (filter (λ q. has (unit q) p) qs)

rows_once : (n w : ℕ) (x y : ℤ) (p : Point) → times_in (rows_from n w x y) p ≡ one_if (has (box x y w n) p)
rows_once zero w x y p = rw (outside (box x y w 0) p (λ i. omega (arith, ints))) refl
rows_once (suc n) w x y p =
    times-append (row_points w x y) (rows_from n w x (y +ℤ pos 1)) p
    ∙ ap (λ m. m + times_in (rows_from n w x (y +ℤ pos 1)) p) (row_once w x y p)
    ∙ ap (λ m. one_if (has (box x y w 1) p) + m) (rows_once n w x (y +ℤ pos 1) p)
    ∙ split (has (box x y w 1) p) (has (box x (y +ℤ pos 1) w n) p) (has (box x y w (suc n)) p)
    (λ e. let i : IsIn (box x y w 1) p = to_in (box x y w 1) p e in outside (box x (y +ℤ pos 1) w n) p (λ j. omega (arith, ints)))
    (λ e f. later_row n w x y p e f)
    (λ e. let i : IsIn (box x y w 1) p = to_in (box x y w 1) p e in
    of_in (box x y w (suc n)) p (record { left = i.left; right = i.right; top = i.top; bottom = omega (arith, ints) }))
    (λ e. let i : IsIn (box x (y +ℤ pos 1) w n) p = to_in (box x (y +ℤ pos 1) w n) p e in
    of_in (box x y w (suc n)) p (record { left = i.left; right = i.right; top = omega (arith, ints); bottom = omega (arith, ints) }))

same_side : (z : ℤ) → pos 0 ≤ℤ z → pos (nat_abs z) ≡ z
same_side z h = omega (arith, ints)

pub once : (r : Rectangle) (p : Point) → IsRectangle r → times_in (points_in r) p ≡ one_if (has r p)
unfolding points_in
once r p is =
    rows_once (nat_abs r.h) (nat_abs r.w) r.x r.y p
    ∙ ap (λ w. one_if (has (record { x = r.x; y = r.y; w = w; h = pos (nat_abs r.h) }) p)) (same_side r.w is.wide)
    ∙ ap (λ h. one_if (has (record { x = r.x; y = r.y; w = r.w; h = h }) p)) (same_side r.h is.high)
