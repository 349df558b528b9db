use Rattle.std.proofs.Common.{sym, subst}
use Rattle.vz_rules.specs.Messages.{client_answer}
use Rattle.vz_slow.specs.Quiet.{IsAlone}
use Rattle.vz_slow.specs.Reaching.{IsReached, world_at}
use Rattle.vz_slow.proofs.Quieting.{reached_own}
use Rattle.vz_slow.proofs.slow.take_quiet.Goals as goal

pub quiet-requires : goal.quiet-requires
quiet-requires c =
    let p = c.args.plan.now in
    (reached_own p _ (subst (λ s. IsReached p (world_at p s)) c.in-Running.is c.requires)).clients

pub returns-in_ok-quiet-in-Running-clause-ok : goal.returns-in_ok-quiet-in-Running-clause-ok
returns-in_ok-quiet-in-Running-clause-ok c =
    let p = c.args.plan.now in
    subst (λ s. IsAlone (world_at p s) (client_answer p (world_at p s) c.args.c) c.in_ok-quiet-in-Running.field-0 c.quiet.new.self) (sym c.in-Running.is) c.in_ok-quiet-in-Running.ensures.ok
