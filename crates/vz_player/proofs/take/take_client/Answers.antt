use Rattle.std.proofs.Common.{refl}
use Rattle.vz_rules.specs.declared.entry.Event.TheVariants as event
use Rattle.vz_player.proofs.Undrawn.{entry_is, no_picture}
use Rattle.vz_player.proofs.take.take_client.Goals as goal

pub returns-clause-entry : goal.returns-clause-entry
returns-clause-entry g c =
    entry_is (g.M.Machine.state c.args.machine.now) (event.Client c.args.client) (event.Client c.args.client) (event.Client c.args.client) c.in_ok-step.step c.entry_of.result refl refl c.in_ok-step.ensures.answer c.entry_of.ensures

pub returns-clause-picture : goal.returns-clause-picture
returns-clause-picture g c =
    no_picture (g.M.Machine.state c.args.machine.now) (event.Client c.args.client) (event.Client c.args.client) c.in_ok-step.step c.entry_of.result tt c.in_ok-step.ensures.answer c.entry_of.ensures
