use Rattle.std.proofs.Common.{◌+◌, ◌*◌, arith}
use Rattle.vz_kernel.proofs.Walked.{step_changed}
use Rattle.vz_kernel.proofs.walks.change_groups.Goals as goal

pub loop-k-preserved : goal.loop-k-preserved
loop-k-preserved g c =
    let f = g.C.Change.changed c.args.change.now in
    let test = c.loop-k-test.true in
    let inside = c.requires in
    (step_changed f (c.loop-k.k * 16) 16 ((c.loop-k.k + 1) * 16) c.args.row.now c.loop-k.row _ (omega arith) (omega arith) c.loop-k.invariant.0 c.group.ensures, c.turned-factors.ensures _ c.loop-k.invariant.1)
