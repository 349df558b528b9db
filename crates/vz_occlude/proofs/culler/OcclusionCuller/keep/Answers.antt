use Rattle.std.proofs.Common.{◌-◌, refl, arith}
use Rattle.vz_occlude.proofs.Keeping.{kept_at}
use Rattle.vz_occlude.proofs.culler.OcclusionCuller.keep.Goals as goal

pub returns-clause-kept : goal.returns-clause-kept
returns-clause-kept c op =
    let long = c.args.self.now.ops.ok.0 in
    let low = c.requires.low in
    kept_at c.args.place op c.args.self.now _ (c.args.self.now.kept - 1) c.requires.before (omega (arith, long, low)) refl refl c.swap.ensures.by_index
