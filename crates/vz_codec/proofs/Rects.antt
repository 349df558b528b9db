-- What fits is a rectangle that can be made.
use Rattle.std.proofs.Common.{◌≡◌, ℤ, pos, int_lt, Bool, true, false, ◌&&◌, inl, inr, refl, arith}
use Rattle.std.proofs.Common.{w32, to_z, of_z, SFits}
use Rattle.std.proofs.lemmas.Bool.{and_parts, or_cases}
use Rattle.std.proofs.lemmas.Int.{ints, to_z-of_z}
use Rattle.vz_geom.specs.Rectangle.{Rectangle, with_sides}
use Rattle.vz_frame.specs.Fits.{fits_rect, is_zero, in_reach, is_side}

abbrev pub rectangle : ℤ → ℤ → ℤ → ℤ → Rectangle
rectangle x y w h = record { x = x; y = y; w = w; h = h }

-- what follows where a rectangle fits: its numbers are in reach, and it is made of them
pub record IsMade (x y w h : ℤ) : Type 0 where
  pub left : in_reach x ≡ true
  pub top : in_reach y ≡ true
  pub wide : in_reach w ≡ true
  pub high : in_reach h ≡ true
  pub own : with_sides x y w h ≡ rectangle x y w h

zero_is : (z : ℤ) → is_zero z ≡ true → z ≡ pos 0
zero_is z h = grind (arith, ints)

side_is : (z : ℤ) → is_side z ≡ true → (in_reach z ≡ true) × (int_lt z (pos 1) ≡ false)
side_is z h = (grind (arith, ints), grind (arith, ints))

four : (a b c d : Bool) → (a && b && c && d) ≡ true → (a ≡ true) × (b ≡ true) × (c ≡ true) × (d ≡ true)
four a b c d e =
    let abc = and_parts (a && b && c) d e in
    let ab = and_parts (a && b) c abc.0 in
    let one = and_parts a b ab.0 in
    (one.0, one.1, ab.1, abc.1)

pub is_made : (x y w h : ℤ) → fits_rect (rectangle x y w h) ≡ true → IsMade x y w h
unfolding with_sides
is_made x y w h fits =
    let zero = is_zero x && is_zero y && is_zero w && is_zero h in
    elim (or_cases zero (in_reach x && in_reach y && is_side w && is_side h) fits) [
      | inl none ↦
          let e = four (is_zero x) (is_zero y) (is_zero w) (is_zero h) none in
          rw (zero_is x e.0, zero_is y e.1, zero_is w e.2, zero_is h e.3)
          (record { left = refl; top = refl; wide = refl; high = refl; own = refl })
      | inr some ↦
          let e = four (in_reach x) (in_reach y) (is_side w) (is_side h) some in
          let wide = side_is w e.2 in
          let high = side_is h e.3 in
          record { left = e.0; top = e.1; wide = wide.0; high = high.0; own = rw (wide.1, high.1) refl }
    ]

-- what is made of numbers that were passed on
pub made : (x y w h : ℤ) → SFits w32 x → SFits w32 y → SFits w32 w → SFits w32 h → fits_rect (rectangle x y w h) ≡ true
    → with_sides (to_z w32 (of_z w32 x)) (to_z w32 (of_z w32 y)) (to_z w32 (of_z w32 w)) (to_z w32 (of_z w32 h))
    ≡ rectangle x y w h
made x y w h a b c d fits =
    rw (to_z-of_z w32 x a, to_z-of_z w32 y b, to_z-of_z w32 w c, to_z-of_z w32 h d) (is_made x y w h fits).own
