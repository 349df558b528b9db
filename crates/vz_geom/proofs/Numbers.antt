-- What a call is given of a rectangle is what the rectangle has: its numbers have 32 bits.
use Rattle.std.proofs.Common.{◌≡◌, ℤ, ◌+ℤ◌, ◌-ℤ◌, ◌≤ℤ◌, ◌<◌, pos, int_le, Bool, ◌&&◌, sym, ◌∙◌, subst, arith, to_z, of_z}
use Rattle.std.specs.Int.{w32, int_max, int_min}
use Rattle.std.specs.Int.Signed.{mag}
use Rattle.std.proofs.lemmas.Int.{ints, clamps, to_z-of_z}
use Rattle.vz_base.specs.declared.limits.TheConstants.{GREATEST_EDGE}
use Rattle.vz_geom.specs.Rectangle.{Rectangle, IsRectangle, meet, hull, with_sides}

-- a number as a call is given it
abbrev pub given : ℤ → ℤ
given z = to_z w32 (of_z w32 z)

-- within this far, a number is given as it is
pub stays : (z : ℤ) → (pos 0 -ℤ pos 1073741824) ≤ℤ z → z ≤ℤ pos 1073741824 → given z ≡ z
stays z low high = omega (arith, ints)

-- a rectangle's numbers are given as they are
pub record AreGiven (r : Rectangle) : Type 0 where
  pub x : given r.x ≡ r.x
  pub y : given r.y ≡ r.y
  pub w : given r.w ≡ r.w
  pub h : given r.h ≡ r.h

pub all_given : (r : Rectangle) → IsRectangle r → AreGiven r
all_given r is =
    let edges = is.edges in
    record {
      x = stays r.x (omega (arith, ints)) (omega (arith, ints));
      y = stays r.y (omega (arith, ints)) (omega (arith, ints));
      w = stays r.w (omega (arith, ints)) (omega (arith, ints));
      h = stays r.h (omega (arith, ints)) (omega (arith, ints));
    }

-- the first span has the second one, across
abbrev pub across : Rectangle → Rectangle → Bool
across a b = int_le a.x b.x && int_le (b.x +ℤ b.w) (a.x +ℤ a.w)

-- and down
abbrev pub down : Rectangle → Rectangle → Bool
down a b = int_le a.y b.y && int_le (b.y +ℤ b.h) (a.y +ℤ a.h)

pub across_given : (a b : Rectangle) → IsRectangle a → IsRectangle b → (int_le (given a.x) (given b.x) && int_le (given b.x +ℤ given b.w) (given a.x +ℤ given a.w)) ≡ across a b
across_given a b p q = let m = all_given a p in let n = all_given b q in rw (m.x, m.w, n.x, n.w)

pub down_given : (a b : Rectangle) → IsRectangle a → IsRectangle b → (int_le (given a.y) (given b.y) && int_le (given b.y +ℤ given b.h) (given a.y +ℤ given a.h)) ≡ down a b
down_given a b p q = let m = all_given a p in let n = all_given b q in rw (m.y, m.h, n.y, n.h)

-- a number of 32 bits is given as it is
pub fits_stays : (z : ℤ) → mag z < 2147483648 → given z ≡ z
fits_stays z h = to_z-of_z w32 z (record { sfits = h })

pub same_max : {a a' b b' : ℤ} → a ≡ a' → b ≡ b' → int_max a b ≡ int_max a' b'
same_max p q = cc

pub same_min : {a a' b b' : ℤ} → a ≡ a' → b ≡ b' → int_min a b ≡ int_min a' b'
same_min p q = cc

pub given_edges : (left top right bottom : ℤ) → given left ≡ left → given top ≡ top → given right ≡ right → given bottom ≡ bottom
    → with_sides (given left) (given top) (given right -ℤ given left) (given bottom -ℤ given top) ≡ with_sides left top (right -ℤ left) (bottom -ℤ top)
given_edges left top right bottom p q r s = rw (p, q, r, s)

-- the rectangle between the greater starts and the smaller ends of two
pub meet_of : (a b : Rectangle) (left top right bottom : ℤ)
    → left ≡ int_max a.x b.x → top ≡ int_max a.y b.y → right ≡ int_min (a.x +ℤ a.w) (b.x +ℤ b.w) → bottom ≡ int_min (a.y +ℤ a.h) (b.y +ℤ b.h)
    → with_sides left top (right -ℤ left) (bottom -ℤ top) ≡ meet a b
unfolding meet
meet_of a b left top right bottom p q r s = rw (p, q, r, s)

-- the rectangle between the smaller starts and the greater ends of two
pub hull_of : (a b : Rectangle) (left top right bottom : ℤ)
    → left ≡ int_min a.x b.x → top ≡ int_min a.y b.y → right ≡ int_max (a.x +ℤ a.w) (b.x +ℤ b.w) → bottom ≡ int_max (a.y +ℤ a.h) (b.y +ℤ b.h)
    → with_sides left top (right -ℤ left) (bottom -ℤ top) ≡ hull a b
unfolding hull
hull_of a b left top right bottom p q r s = rw (p, q, r, s)

min_above : (l a b : ℤ) → l ≤ℤ a → l ≤ℤ b → l ≤ℤ int_min a b
min_above l a b p q = omega (arith, ints, clamps)

-- the smaller of two first numbers is within the limit, as a call is given it
pub first_within : (r a b : ℤ) → mag r < 2147483648 → r ≡ int_min a b → (pos 0 -ℤ GREATEST_EDGE) ≤ℤ a → (pos 0 -ℤ GREATEST_EDGE) ≤ℤ b → (pos 0 -ℤ GREATEST_EDGE) ≤ℤ given r
first_within r a b m e p q = subst (λ z. (pos 0 -ℤ GREATEST_EDGE) ≤ℤ z) (sym (fits_stays r m ∙ e)) (min_above (pos 0 -ℤ GREATEST_EDGE) a b p q)

-- a first number and an offset, as calls are given them
pub sum_given : (x by : ℤ) → given x ≡ x → given by ≡ by → (pos 0 -ℤ pos 1073741824) ≤ℤ (x +ℤ by) → (x +ℤ by) ≤ℤ pos 1073741824 → given (given x +ℤ given by) ≡ x +ℤ by
sum_given x by p q low high = rw (p, q) (stays (x +ℤ by) low high)
