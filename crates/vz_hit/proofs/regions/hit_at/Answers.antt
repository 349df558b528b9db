use Rattle.std.proofs.Common.{ap, arith}
use Rattle.std.proofs.lemmas.Int.{ints}
use Rattle.vz_geom.specs.declared.Point.{Point}
use Rattle.vz_geom.proofs.Points.{same_point}
use Rattle.vz_hit.specs.declared.region.Hit.{Hit}
use Rattle.vz_hit.proofs.regions.hit_at.Goals as goal

pub returns : goal.returns
returns c =
    let near = c.requires.near in
    let room = c.requires.room in
    ap {B = Hit} (λ (q : Point). record { id = c.args.owner.now.id; local = q }) (same_point (omega (arith, ints)) (omega (arith, ints)))
