use Rattle.std.proofs.Common.{refl}
use Rattle.vz_rules.specs.declared.entry.Event.TheVariants as event
use Rattle.viz_c.proofs.Stepped.{entry_is}
use Rattle.viz_c.proofs.stage.drawn.Goals as goal

pub returns-clause-entry : goal.returns-clause-entry
returns-clause-entry c =
    entry_is c.args.machine.now.machine event.Draw event.Draw event.Draw c.in_ok-step.step c.entry_of.result refl refl
    c.in_ok-step.ensures.answer c.entry_of.ensures
