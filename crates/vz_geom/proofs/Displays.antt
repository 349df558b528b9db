-- The rectangle of a display.
use Rattle.std.proofs.Common.{◌≡◌, ◌≤◌, ℤ, pos, negsuc, ◌≤ℤ◌, int_lt, false, ◌||◌, if◌then◌else◌, ap, ◌∙◌, arith}
use Rattle.std.specs.Int.{w32}
use mir.Val.{to_z, of_z}
use Rattle.std.proofs.lemmas.Int.{ints, to_z-of_z}
use Rattle.vz_geom.specs.declared.Size.{Size}
use Rattle.vz_geom.specs.Rectangle.{no_rectangle, with_sides, sized}
use Rattle.vz_geom.specs.Display.{IsDisplaySize}

not_less : (z : ℤ) → pos 1 ≤ℤ z → int_lt z (pos 1) ≡ false
not_less z h = grind (arith, ints)

-- the sides of a display are those of its rectangle
pub display_sides : (size : Size) → IsDisplaySize size → with_sides (pos 0) (pos 0) size.w size.h ≡ sized size
unfolding with_sides
display_sides size is =
    let none : (int_lt size.w (pos 1) || int_lt size.h (pos 1)) ≡ false =
    ap (λ b. b || int_lt size.h (pos 1)) (not_less size.w is.wide) ∙ not_less size.h is.high in
    ap (λ b. if b then no_rectangle else sized size) none

-- a side as it is read
pub side_read : (z : ℤ) → pos 1 ≤ℤ z → z ≤ℤ pos 2048 → to_z w32 (of_z w32 z) ≡ z
side_read (pos n) low high = to_z-of_z w32 (pos n) (let small : n ≤ 2048 = omega (arith, ints) in omega arith)
side_read (negsuc n) low high = absurd (omega (arith, ints))

pub display_read : (size : Size) → IsDisplaySize size → with_sides (pos 0) (pos 0) (to_z w32 (of_z w32 size.w)) (to_z w32 (of_z w32 size.h)) ≡ sized size
display_read size is =
    ap (λ w. with_sides (pos 0) (pos 0) w (to_z w32 (of_z w32 size.h))) (side_read size.w is.wide is.not_too_wide)
    ∙ ap (λ h. with_sides (pos 0) (pos 0) size.w h) (side_read size.h is.high is.not_too_high)
    ∙ display_sides size is
