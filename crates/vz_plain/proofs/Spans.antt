-- The places of a row that rectangles, sizes and quads have.
use Rattle.std.proofs.Common.{◌≡◌, ℕ, ◌≤◌, ◌<◌, ℤ, pos, ◌+ℤ◌, ◌-ℤ◌, ◌≤ℤ◌, ◌<ℤ◌, Bool, true, false, not, ◌&&◌, FitsSigned, w64, to_z, of_z, Option, Some, None, refl, sym, ap, ◌∙◌, arith}
use Rattle.std.specs.Prelude.{int_le, int_lt, nat_le, nat_lt}
use Rattle.std.specs.Int.{w32}
use Rattle.std.proofs.lemmas.Int.{ints, to_z-of_z}
use Rattle.std.proofs.lemmas.Bool.{ltb-true, ltb-false, leb-true, le-leb, lt-ltb}
use Rattle.vz_base.specs.declared.limits.TheConstants.{GREATEST_EDGE}
use Rattle.vz_geom.specs.declared.Point.{Point}
use Rattle.vz_geom.specs.declared.Size.{Size}
use Rattle.vz_geom.specs.Rectangle.{Rectangle, IsRectangle, has, minus, sized}
use Rattle.vz_geom.proofs.Points.{same_point}
use Rattle.vz_geom.proofs.Sets.{same_test, both, and_true, le_true, lt_true, true_le, true_lt, to_in}
use Rattle.vz_frame.specs.declared.frame.RenderPass.{RenderPass}
use Rattle.vz_frame.specs.declared.frame.DrawQuad.{DrawQuad}
use Rattle.vz_rules.specs.Paint.{covers, in_clip}
use Rattle.vz_plain.specs.declared.span.Reach.{Reach}
use Rattle.vz_plain.specs.declared.span.Span.{Span}
use Rattle.vz_plain.specs.Rows.{right_of, reaches, within}
use Rattle.vz_plain.proofs.Pointing.{fits_inside}

-- Tests

same_le : (a b c d : ℤ) → (a ≤ℤ b → c ≤ℤ d) → (c ≤ℤ d → a ≤ℤ b) → int_le a b ≡ int_le c d
same_le a b c d f g = same_test (int_le a b) (int_le c d) (λ e. true_le c d (f (le_true a b e))) (λ e. true_le a b (g (le_true c d e)))

same_lt : (a b c d : ℤ) → (a <ℤ b → c <ℤ d) → (c <ℤ d → a <ℤ b) → int_lt a b ≡ int_lt c d
same_lt a b c d f g = same_test (int_lt a b) (int_lt c d) (λ e. true_lt c d (f (lt_true a b e))) (λ e. true_lt a b (g (lt_true c d e)))

or_less : {P : Type 0} (a b : ℕ) → (a < b → P) → (b ≤ a → P) → P
or_less {P} a b less more = by_test (nat_lt a b) refl
  where
    by_test : (t : Bool) → nat_lt a b ≡ t → P
    by_test true e = less (ltb-true a b e)
    by_test false e = more (ltb-false a b e)

not_true : (t : Bool) → (t ≡ true → ⊥) → t ≡ false
not_true true n = absurd (n refl)
not_true false n = refl

and_right : (t : Bool) → (t && true) ≡ t
and_right true = refl
and_right false = refl

and_none : (t : Bool) → (t && false) ≡ false
and_none true = refl
and_none false = refl

shuffle : (a b c d : Bool) → ((a && b) && (c && d)) ≡ ((a && c) && (b && d))
shuffle false b c d = refl
shuffle true true c d = refl
shuffle true false true d = refl
shuffle true false false d = refl

is_true : (t : Bool) → not t ≡ false → t ≡ true
is_true true e = refl
is_true false e = absurd (cc)

is_false : (t : Bool) → not t ≡ true → t ≡ false
is_false true e = absurd (cc)
is_false false e = refl

-- Where rectangles are in a row

-- a sum and a difference of numbers of 32 bits fit 64 bits
pub column_is : (x by start f g h : ℤ) → FitsSigned w32 x → FitsSigned w32 by → FitsSigned w32 start → f ≡ to_z w32 (of_z w32 x) → g ≡ to_z w32 (of_z w32 by) → h ≡ to_z w32 (of_z w32 start)
    → to_z w64 (of_z w64 (to_z w64 (of_z w64 (to_z w64 (of_z w64 f) +ℤ to_z w64 (of_z w64 g))) -ℤ to_z w64 (of_z w64 h))) ≡ (x +ℤ by) -ℤ start
column_is x by start f g h x_fits by_fits start_fits d e k =
    let first : to_z w64 (of_z w64 f) ≡ x = widened x f x_fits d in
    let second : to_z w64 (of_z w64 g) ≡ by = widened by g by_fits e in
    let third : to_z w64 (of_z w64 h) ≡ start = widened start h start_fits k in
    let sum : to_z w64 (of_z w64 (to_z w64 (of_z w64 f) +ℤ to_z w64 (of_z w64 g))) ≡ x +ℤ by =
    ap (λ n. to_z w64 (of_z w64 n)) (λ j. first j +ℤ second j) ∙ to_z-of_z w64 (x +ℤ by) (omega (arith, ints, x_fits, by_fits))
    in
    ap (λ n. to_z w64 (of_z w64 n)) (λ j. sum j -ℤ third j) ∙ to_z-of_z w64 ((x +ℤ by) -ℤ start) (omega (arith, ints, x_fits, by_fits, start_fits))
  where
    widened : (z n : ℤ) → FitsSigned w32 z → n ≡ to_z w32 (of_z w32 z) → to_z w64 (of_z w64 n) ≡ z
    widened z n fits e =
        let same : n ≡ z = e ∙ to_z-of_z w32 z fits in
        ap (λ m. to_z w64 (of_z w64 m)) same ∙ to_z-of_z w64 z (omega (arith, ints, fits))

pub reach_is : (area : Rectangle) (start by : Point) (r : Reach) → r.left ≡ ((area.x +ℤ by.x) -ℤ start.x) → r.right ≡ (((area.x +ℤ area.w) +ℤ by.x) -ℤ start.x)
    → r.has_row ≡ (int_le area.y (start.y -ℤ by.y) && int_lt (start.y -ℤ by.y) (area.y +ℤ area.h))
    → (i : ℕ) → has area (minus (right_of start i) by) ≡ reaches r i
reach_is area start by r l t h i =
    let left : int_le area.x ((start.x +ℤ pos i) -ℤ by.x) ≡ int_le r.left (pos i) =
    same_le area.x ((start.x +ℤ pos i) -ℤ by.x) r.left (pos i) (λ e. omega (arith, ints, l, e)) (λ e. omega (arith, ints, l, e))
    in
    let right : int_lt ((start.x +ℤ pos i) -ℤ by.x) (area.x +ℤ area.w) ≡ int_lt (pos i) r.right =
    same_lt ((start.x +ℤ pos i) -ℤ by.x) (area.x +ℤ area.w) (pos i) r.right (λ e. omega (arith, ints, t, e)) (λ e. omega (arith, ints, t, e))
    in
    λ j. (left j && right j) && sym h j

pub size_reach_is : (size : Size) (start : Point) (r : Reach) → r.left ≡ (pos 0 -ℤ start.x) → r.right ≡ (size.w -ℤ start.x)
    → r.has_row ≡ (int_le (pos 0) start.y && int_lt start.y size.h)
    → (i : ℕ) → has (sized size) (right_of start i) ≡ reaches r i
size_reach_is size start r l t h i =
    let left : int_le (pos 0) (start.x +ℤ pos i) ≡ int_le r.left (pos i) =
    same_le (pos 0) (start.x +ℤ pos i) r.left (pos i) (λ e. omega (arith, ints, l, e)) (λ e. omega (arith, ints, l, e))
    in
    let right : int_lt (start.x +ℤ pos i) (pos 0 +ℤ size.w) ≡ int_lt (pos i) r.right =
    same_lt (start.x +ℤ pos i) (pos 0 +ℤ size.w) (pos i) r.right (λ e. omega (arith, ints, t, e)) (λ e. omega (arith, ints, t, e))
    in
    let below : int_lt start.y (pos 0 +ℤ size.h) ≡ int_lt start.y size.h =
    same_lt start.y (pos 0 +ℤ size.h) start.y size.h (λ e. omega (arith, ints, e)) (λ e. omega (arith, ints, e))
    in
    (λ j. (left j && right j) && (int_le (pos 0) start.y && below j)) ∙ (λ j. (int_le r.left (pos i) && int_lt (pos i) r.right) && sym h j)

-- Places of a reach

-- so many of the first columns are left of a column
pub record IsBefore (x : ℤ) (count n : ℕ) : Type 0 where
  pub most : n ≤ count
  pub left : 0 < n → pos n ≤ℤ x
  pub right : n < count → x ≤ℤ pos n

le_is : (x : ℤ) (count n i : ℕ) → IsBefore x count n → i < count → int_le x (pos i) ≡ nat_le n i
le_is x count n i b low =
    same_test (int_le x (pos i)) (nat_le n i) there back
  where
    there : int_le x (pos i) ≡ true → nat_le n i ≡ true
    there e =
        let is = le_true x (pos i) e in
        le-leb n i (or_less i n
        (λ less. let far : pos n ≤ℤ x = b.left (omega (arith, less)) in absurd (omega (arith, ints, less, far, is)))
        (λ more. more))

    back : nat_le n i ≡ true → int_le x (pos i) ≡ true
    back e =
        let least = leb-true n i e in
        let far : x ≤ℤ pos n = b.right (omega (arith, least, low)) in
        true_le x (pos i) (omega (arith, ints, far, least))

lt_is : (x : ℤ) (count n i : ℕ) → IsBefore x count n → i < count → int_lt (pos i) x ≡ nat_lt i n
lt_is x count n i b low =
    same_test (int_lt (pos i) x) (nat_lt i n) there back
  where
    there : int_lt (pos i) x ≡ true → nat_lt i n ≡ true
    there e =
        let is = lt_true (pos i) x e in
        lt-ltb i n (or_less i n
        (λ less. less)
        (λ more. let far : x ≤ℤ pos n = b.right (omega (arith, more, low)) in absurd (omega (arith, ints, more, far, is))))

    back : nat_lt i n ≡ true → int_lt (pos i) x ≡ true
    back e =
        let less = ltb-true i n e in
        let far : pos n ≤ℤ x = b.left (omega (arith, less)) in
        true_lt (pos i) x (omega (arith, ints, far, less))

-- no place is from a later one on and before an earlier one
pub apart : (from to i : ℕ) → to < from → (nat_le from i && nat_lt i to) ≡ false
apart from to i less =
    not_true (nat_le from i && nat_lt i to) (λ e.
    let parts = both (nat_le from i) (nat_lt i to) e in
    let least = leb-true from i parts.0 in
    let most = ltb-true i to parts.1 in
    omega (arith, less, least, most))

none : (i : ℕ) → (nat_le 0 i && nat_lt i 0) ≡ false
none i =
    not_true (nat_le 0 i && nat_lt i 0) (λ e.
    let most = ltb-true i 0 (both (nat_le 0 i) (nat_lt i 0) e).1 in
    omega (arith, most))

pub no_row : (r : Reach) (i : ℕ) → not r.has_row ≡ true → reaches r i ≡ (nat_le 0 i && nat_lt i 0)
no_row r i e =
    ap (λ t. (int_le r.left (pos i) && int_lt (pos i) r.right) && t) (is_false r.has_row e) ∙ (and_none (int_le r.left (pos i) && int_lt (pos i) r.right) ∙ sym (none i))

pub reached : (r : Reach) (count from to : ℕ) → not r.has_row ≡ false → IsBefore r.left count from → IsBefore r.right count to
    → (i : ℕ) → i < count → reaches r i ≡ (nat_le from i && nat_lt i to)
reached r count from to e f t i low =
    (λ j. (le_is r.left count from i f low j && lt_is r.right count to i t low j) && is_true r.has_row e j) ∙ and_right (nat_le from i && nat_lt i to)

pub none_reached : (r : Reach) (count from to : ℕ) → not r.has_row ≡ false → IsBefore r.left count from → IsBefore r.right count to → to < from
    → (i : ℕ) → i < count → reaches r i ≡ (nat_le 0 i && nat_lt i 0)
none_reached r count from to e f t less i low = reached r count from to e f t i low ∙ (apart from to i less ∙ sym (none i))

-- Spans

-- the span from the later start to the sooner end is what both have
pub shared_by : (a b : Span) (from to : ℕ) → ((i : ℕ) → nat_le from i ≡ (nat_le a.from i && nat_le b.from i)) → ((i : ℕ) → nat_lt i to ≡ (nat_lt i a.to && nat_lt i b.to))
    → (i : ℕ) → (nat_le from i && nat_lt i to) ≡ (within a i && within b i)
shared_by a b from to f t i = (λ j. f i j && t i j) ∙ shuffle (nat_le a.from i) (nat_le b.from i) (nat_lt i a.to) (nat_lt i b.to)

pub none_shared : (a b : Span) (from to : ℕ) → ((i : ℕ) → nat_le from i ≡ (nat_le a.from i && nat_le b.from i)) → ((i : ℕ) → nat_lt i to ≡ (nat_lt i a.to && nat_lt i b.to)) → to < from
    → (i : ℕ) → (nat_le 0 i && nat_lt i 0) ≡ (within a i && within b i)
none_shared a b from to f t less i = none i ∙ (sym (apart from to i less) ∙ shared_by a b from to f t i)

pub later_first : (a b : ℕ) → a < b → (i : ℕ) → nat_le b i ≡ (nat_le a i && nat_le b i)
later_first a b less i =
    same_test (nat_le b i) (nat_le a i && nat_le b i)
    (λ e. let least = leb-true b i e in and_true (nat_le a i) (nat_le b i) (le-leb a i (omega (arith, less, least))) e)
    (λ e. (both (nat_le a i) (nat_le b i) e).1)

pub later_second : (a b : ℕ) → b ≤ a → (i : ℕ) → nat_le a i ≡ (nat_le a i && nat_le b i)
later_second a b less i =
    same_test (nat_le a i) (nat_le a i && nat_le b i)
    (λ e. let least = leb-true a i e in and_true (nat_le a i) (nat_le b i) e (le-leb b i (omega (arith, less, least))))
    (λ e. (both (nat_le a i) (nat_le b i) e).0)

pub sooner_first : (a b : ℕ) → a < b → (i : ℕ) → nat_lt i a ≡ (nat_lt i a && nat_lt i b)
sooner_first a b less i =
    same_test (nat_lt i a) (nat_lt i a && nat_lt i b)
    (λ e. let most = ltb-true i a e in and_true (nat_lt i a) (nat_lt i b) e (lt-ltb i b (omega (arith, less, most))))
    (λ e. (both (nat_lt i a) (nat_lt i b) e).0)

pub sooner_second : (a b : ℕ) → b ≤ a → (i : ℕ) → nat_lt i b ≡ (nat_lt i a && nat_lt i b)
sooner_second a b less i =
    same_test (nat_lt i b) (nat_lt i a && nat_lt i b)
    (λ e. let most = ltb-true i b e in and_true (nat_lt i a) (nat_lt i b) (lt-ltb i a (omega (arith, less, most))) e)
    (λ e. (both (nat_lt i a) (nat_lt i b) e).1)

pub unmoved : (p by : Point) → by.x ≡ pos 0 → by.y ≡ pos 0 → minus p by ≡ p
unmoved p by e f = same_point (omega (arith, ints, e)) (omega (arith, ints, f))

-- a rectangle that is not moved
pub own_reach_is : (area : Rectangle) (start : Point) (r : Reach) → r.left ≡ ((area.x +ℤ pos 0) -ℤ start.x) → r.right ≡ (((area.x +ℤ area.w) +ℤ pos 0) -ℤ start.x)
    → r.has_row ≡ (int_le area.y (start.y -ℤ pos 0) && int_lt (start.y -ℤ pos 0) (area.y +ℤ area.h))
    → (i : ℕ) → has area (right_of start i) ≡ reaches r i
own_reach_is area start r l t h i =
    ap (has area) (sym (unmoved (right_of start i) (record { x = pos 0; y = pos 0 }) refl refl)) ∙ reach_is area start (record { x = pos 0; y = pos 0 }) r l t h i

-- columns inside a rectangle, and inside a size, fit 32 bits
pub column_fits : (area : Rectangle) (start : Point) (i : ℕ) → IsRectangle area → has area (right_of start i) ≡ true → FitsSigned w32 (start.x +ℤ pos i)
column_fits area start i is e = (fits_inside area (right_of start i) is e).0

pub size_column_fits : (size : Size) (start : Point) (i : ℕ) → size.w ≤ℤ (GREATEST_EDGE +ℤ GREATEST_EDGE) → has (sized size) (right_of start i) ≡ true → FitsSigned w32 (start.x +ℤ pos i)
size_column_fits size start i small e =
    let in_it = to_in (sized size) (right_of start i) e in
    let left = in_it.left in
    let right = in_it.right in
    omega (arith, ints, left, right, small)

-- a quad covers the places that its pass's output, its clip and its visible part have
pub covered_is : (pass : RenderPass) (quad : DrawQuad) (q : Point) (drawn kept seen both all : Bool)
    → has pass.output q ≡ drawn → in_clip quad.clip q ≡ kept → has quad.visible (minus q quad.offset) ≡ seen → both ≡ (drawn && kept) → all ≡ (both && seen)
    → covers pass quad q ≡ all
unfolding covers
covered_is pass quad q drawn kept seen both all d k s b a =
    (λ j. (d j && k j) && s j) ∙ (ap (λ t. t && seen) (sym b) ∙ sym a)

-- a place of a part of a span is one of the span
pub first_of_three : (drawn kept seen both all : Bool) → both ≡ (drawn && kept) → all ≡ (both && seen) → all ≡ true → drawn ≡ true
first_of_three drawn kept seen both all b a e = both_true drawn kept (sym b ∙ both_true both seen (sym a ∙ e))
  where
    both_true : (t u : Bool) → (t && u) ≡ true → t ≡ true
    both_true true u e = refl
    both_true false u e = absurd (cc)

pub no_clip : (clip : Option Rectangle) (count : ℕ) (start : Point) (i : ℕ) → clip ≡ None → i < count → in_clip clip (right_of start i) ≡ (nat_le 0 i && nat_lt i count)
no_clip clip count start i none low = rw none (sym (and_true (nat_le 0 i) (nat_lt i count) (le-leb 0 i (omega arith)) (lt-ltb i count low)))

pub some_clip : (clip : Option Rectangle) (area : Rectangle) (t : Bool) (q : Point) → clip ≡ Some area → has area q ≡ t → in_clip clip q ≡ t
some_clip clip area t q is e = rw is e
