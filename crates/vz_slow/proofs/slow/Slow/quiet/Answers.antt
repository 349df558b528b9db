use Rattle.vz_slow.proofs.Quieting.{slow_quiet, quiet_step}
use Rattle.vz_slow.proofs.slow.Slow.quiet.Goals as goal

pub invariant_of-self-2 : goal.invariant_of-self-2
invariant_of-self-2 c =
    slow_quiet c.self.inside.plan.now _ _ c.args.c c.in_ok-reply.reply c.self.inside.returned c.self.inside.fed c.self.inside.effects c.self.invariant c.in_ok-reply.ensures.ok

pub returns-clause-ok : goal.returns-clause-ok
returns-clause-ok c =
    quiet_step c.self.inside.plan.now _ _ c.args.c c.in_ok-reply.reply c.args.self.now c.self.view_is c.self.invariant.reached.keeps c.in_ok-reply.ensures.ok
