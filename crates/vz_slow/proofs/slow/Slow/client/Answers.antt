use Rattle.std.proofs.Common.{ap, ◌∙◌}
use Rattle.vz_rules.specs.World.{Machine}
use Rattle.vz_rules.specs.Step.{step_in}
use Rattle.vz_rules.specs.declared.entry.Event.TheVariants as event
use Rattle.vz_slow.proofs.Quieting.{quiet_outcome, quiet_none}
use Rattle.vz_slow.proofs.slow.Slow.client.Goals as goal

pub returns-in-Some-clause-ok : goal.returns-in-Some-clause-ok
returns-in-Some-clause-ok c =
    quiet_outcome c.args.self.now c.quiet.new.self c.args.c c.in_ok-reply.field-0 c.in-Some.reply c.none.result c.in_ok-reply.ensures.ok c.in-Some.is c.none.ensures

pub returns-in_ok-client_apart-in-None-clause-ok : goal.returns-in_ok-client_apart-in-None-clause-ok
returns-in_ok-client_apart-in-None-clause-ok c =
    let same = quiet_none c.args.self.now c.quiet.new.self c.args.c c.in_ok-reply.field-0 c.in_ok-reply.ensures.ok c.in-None.is in
    c.in_ok-client_apart-in-None.ensures.ok ∙ ap (λ (m : Machine). step_in m.plan m.world (event.Client c.args.c)) same
