-- What is cut by the display's rectangle lies on it.
use Rattle.std.proofs.Common.{◌≡◌, pos, Bool, true, false, ◌&&◌, ap, sym, ◌∙◌}
use Rattle.vz_geom.specs.declared.Point.{Point}
use Rattle.vz_geom.specs.declared.Size.{Size}
use Rattle.vz_geom.specs.Rectangle.{Rectangle, has, sized, with_sides}

second : (a b : Bool) → (a && b) ≡ true → b ≡ true
second true b h = h
second false b h = absurd (cc)

pub lies_inside : (area drawn screen : Rectangle) (size : Size) → ((q : Point) → has area q ≡ (has drawn q && has screen q)) → screen ≡ with_sides (pos 0) (pos 0) (pos 6) (pos 2)
    → size ≡ record { w = pos 6; h = pos 2 } → (p : Point) → has area p ≡ true → has (sized size) p ≡ true
unfolding with_sides
lies_inside area drawn screen size points is sides p h =
    ap (λ (s : Size). has (sized s) p) sides ∙ ap (λ (r : Rectangle). has r p) (sym is) ∙ second (has drawn p) (has screen p) (sym (points p) ∙ h)

-- all of a display of four columns and two rows
pub all_inside : (area : Rectangle) (size : Size) → area ≡ with_sides (pos 0) (pos 0) (pos 4) (pos 2)
    → size ≡ record { w = pos 4; h = pos 2 } → (p : Point) → has area p ≡ true → has (sized size) p ≡ true
unfolding with_sides
all_inside area size is sides p h = ap (λ (s : Size). has (sized s) p) sides ∙ (ap (λ (r : Rectangle). has r p) (sym is) ∙ h)
