use Rattle.std.proofs.Common.{refl}
use Rattle.vz_rules.specs.declared.entry.Event.TheVariants as event
use Rattle.vz_player.proofs.Undrawn.{entry_is}
use Rattle.vz_player.proofs.take.draw.Goals as goal

pub returns-clause-entry : goal.returns-clause-entry
returns-clause-entry g c =
    entry_is (g.M.Machine.state c.args.machine.now) event.Draw event.Draw event.Draw c.in_ok-step.step c.entry_of.result refl refl c.in_ok-step.ensures.answer c.entry_of.ensures
