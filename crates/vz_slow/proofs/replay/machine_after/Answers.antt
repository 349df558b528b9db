use Rattle.std.proofs.Common.{ap, ◌∙◌, arith}
use Rattle.vz_slow.proofs.Replaying.{standing, at_first, named_next, one_more}
use Rattle.vz_slow.proofs.replay.machine_after.Goals as goal

pub loop-k-init : goal.loop-k-init
loop-k-init c = c.new-machine.ensures ∙ ap (standing c.args.plan.now) (at_first c.args.plan.now)

pub go_on-requires : goal.go_on-requires
go_on-requires c =
    named_next c.loop-k.machine c.args.plan.now c.args.h.now c.loop-k.k c.index-h-k.result (omega arith) c.loop-k.invariant c.requires.named

pub loop-k-preserved : goal.loop-k-preserved
loop-k-preserved c =
    one_more c.loop-k.machine c.go_on.new.machine c.args.plan.now c.args.h.now c.loop-k.k c.index-h-k.result (omega arith) c.loop-k.invariant
    c.in_ok-go_on.ensures.plan c.in_ok-go_on.ensures.world
