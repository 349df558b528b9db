use Rattle.std.proofs.Common.{◌+◌, ◌*◌, arith}
use Rattle.vz_kernel.proofs.Walked.{step_put}
use Rattle.vz_kernel.proofs.walks.mix_groups.Goals as goal

pub loop-k-preserved : goal.loop-k-preserved
loop-k-preserved g c =
    let f = g.M.Mix.mixed c.args.mix.now in
    let test = c.loop-k-test.true in
    let inside = c.requires.inside in
    let next = (c.loop-k.k + 1) * 16 in
    (step_put f (c.loop-k.k * 16) 16 next c.args.src.now c.args.dst.now c.loop-k.dst _ (omega arith) c.requires.dst (omega arith) c.loop-k.invariant.0 c.group.ensures, c.turned-factors.ensures _ c.loop-k.invariant.1)
