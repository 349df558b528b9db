use Rattle.std.proofs.Common.{ap, arith}
use Rattle.std.proofs.lemmas.Int.{ints}
use Rattle.vz_geom.specs.declared.Point.{Point}
use Rattle.vz_geom.proofs.Points.{same_point}
use Rattle.vz_hit.proofs.parts.shift_back.Goals as goal

pub returns-clause-value : goal.returns-clause-value
returns-clause-value c =
    let h = c.requires in
    let across = ap (λ (q : Point). q.x) c.shift-by.ensures.value in
    let down = ap (λ (q : Point). q.y) c.shift-by.ensures.value in
    same_point (omega (arith, ints)) (omega (arith, ints))
