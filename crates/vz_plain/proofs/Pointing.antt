-- Points of rectangles have numbers of 32 bits.
use Rattle.std.proofs.Common.{◌≡◌, Bool, true, false, FitsSigned, refl, arith}
use Rattle.std.specs.Int.{w32}
use Rattle.std.proofs.lemmas.Int.{ints}
use Rattle.vz_geom.specs.declared.Point.{Point}
use Rattle.vz_geom.specs.Rectangle.{Rectangle, IsRectangle, has}
use Rattle.vz_geom.proofs.Sets.{to_in}

-- the numbers of a point have 32 bits
abbrev pub Fits : Point → Type 0
Fits p = FitsSigned w32 p.x × FitsSigned w32 p.y

pub fits_inside : (r : Rectangle) (p : Point) → IsRectangle r → has r p ≡ true → Fits p
fits_inside r p h e =
    let i = to_in r p e in
    (omega (arith, ints, i.left, i.right, h.edges.left, h.edges.right), omega (arith, ints, i.top, i.bottom, h.edges.top, h.edges.bottom))

-- a point whose numbers do not fit is in no rectangle
pub outside : (r : Rectangle) (p : Point) (b : Bool) → IsRectangle r → (Fits p → ⊥) → has r p ≡ b → b ≡ false
outside r p true h n e = absurd (n (fits_inside r p h e))
outside r p false h n e = refl
