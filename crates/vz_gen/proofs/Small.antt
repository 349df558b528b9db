-- A rectangle of a small display.
use Rattle.std.proofs.Common.{◌≡◌, ℤ, pos, ◌≤ℤ◌, ap, ◌∙◌, arith}
use Rattle.std.proofs.lemmas.Int.{ints}
use Rattle.vz_geom.specs.Rectangle.{with_sides}
use Rattle.vz_geom.proofs.Numbers.{given, stays}
use Rattle.vz_geom.proofs.Sets.{full_sides}

small : (z : ℤ) → pos 0 ≤ℤ z → z ≤ℤ pos 64 → given z ≡ z
small z low high = stays z (omega (arith, ints)) (omega (arith, ints))

pub rect_is : (x y w h : ℤ) → (pos 0 ≤ℤ x) × (x ≤ℤ pos 64) → (pos 0 ≤ℤ y) × (y ≤ℤ pos 64) → (pos 1 ≤ℤ w) × (w ≤ℤ pos 64) → (pos 1 ≤ℤ h) × (h ≤ℤ pos 64)
    → with_sides (given x) (given y) (given w) (given h) ≡ record { x = x; y = y; w = w; h = h }
rect_is x y w h xs ys ws hs =
    let wide = ws.0 in
    let high = hs.0 in
    ap (λ z. with_sides z (given y) (given w) (given h)) (small x xs.0 xs.1)
    ∙ (ap (λ z. with_sides x z (given w) (given h)) (small y ys.0 ys.1)
    ∙ (ap (λ z. with_sides x y z (given h)) (small w (omega (arith, ints, wide)) ws.1)
    ∙ (ap (λ z. with_sides x y w z) (small h (omega (arith, ints, high)) hs.1) ∙ full_sides x y w h wide high)))
