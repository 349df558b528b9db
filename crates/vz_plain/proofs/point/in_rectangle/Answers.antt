use Rattle.std.proofs.Common.{arith, ap}
use Rattle.std.proofs.lemmas.Int.{ints}
use Rattle.vz_geom.proofs.Points.{same_point}
use Rattle.vz_geom.specs.declared.Point.{Point}
use Rattle.vz_plain.proofs.point.in_rectangle.Goals as goal

pub returns : goal.returns
returns c =
    let x = ap (λ (p : Point). p.x) c.corner-first.ensures.value in
    let y = ap (λ (p : Point). p.y) c.corner-first.ensures.value in
    let n = c.corner-first.ensures.near in
    same_point (omega (arith, ints, x, y, n.left, n.right, n.top, n.bottom)) (omega (arith, ints, x, y, n.left, n.right, n.top, n.bottom))
