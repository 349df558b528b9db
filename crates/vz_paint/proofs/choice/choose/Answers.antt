use Rattle.std.proofs.Common.{map, drop}
use Rattle.vz_paint.specs.Choice.{seen}
use Rattle.vz_flat.proofs.Nested.{all_dropped}
use Rattle.vz_paint.proofs.Chosen.{all_chosen}
use Rattle.vz_paint.proofs.choice.choose.Goals as goal

pub returns-clause-chosen : goal.returns-clause-chosen
returns-clause-chosen c =
    all_chosen c.args.part.now c.loop-op.hidden (map (λ r. r.now) c.loop-op.chosen.items) (seen c.args.part.now 0 c.args.ops.now) (drop c.loop-op.op-index c.args.ops.now)
    (all_dropped c.args.ops.now c.loop-op.op-index c.loop-op-test.false) c.loop-op.invariant.3
