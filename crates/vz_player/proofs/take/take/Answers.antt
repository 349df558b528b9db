use Rattle.vz_rules.specs.declared.entry.Event.TheVariants as event
use Rattle.vz_player.proofs.Undrawn.{entry_is, no_picture}
use Rattle.vz_player.proofs.take.take.Goals as goal

pub returns-in_ok-begin-in-Begin-clause-entry : goal.returns-in_ok-begin-in-Begin-clause-entry
returns-in_ok-begin-in-Begin-clause-entry g c =
    entry_is (g.M.Machine.state c.args.machine.now) event.Begin c.args.event c.args.event c.in_ok-begin-in-Begin.field-0 c.entry_of.result c.in-Begin.is c.in-Begin.is c.in_ok-begin-in-Begin.ensures.answer c.entry_of.ensures

pub returns-in_ok-begin-in-Begin-clause-picture : goal.returns-in_ok-begin-in-Begin-clause-picture
returns-in_ok-begin-in-Begin-clause-picture g c =
    no_picture (g.M.Machine.state c.args.machine.now) event.Begin c.args.event c.in_ok-begin-in-Begin.field-0 c.entry_of.result tt c.in_ok-begin-in-Begin.ensures.answer c.entry_of.ensures

pub returns-in-Done-clause-entry : goal.returns-in-Done-clause-entry
returns-in-Done-clause-entry g c =
    entry_is (g.M.Machine.state c.args.machine.now) event.Done c.args.event c.args.event c.done.result c.entry_of-in-Done.result c.in-Done.is c.in-Done.is c.done.ensures.answer c.entry_of-in-Done.ensures

pub returns-in-Done-clause-picture : goal.returns-in-Done-clause-picture
returns-in-Done-clause-picture g c =
    no_picture (g.M.Machine.state c.args.machine.now) event.Done c.args.event c.done.result c.entry_of-in-Done.result tt c.done.ensures.answer c.entry_of-in-Done.ensures

pub returns-in-Over-clause-entry : goal.returns-in-Over-clause-entry
returns-in-Over-clause-entry g c =
    entry_is (g.M.Machine.state c.args.machine.now) event.Over c.args.event c.args.event c.over.result c.entry_of-in-Over.result c.in-Over.is c.in-Over.is c.over.ensures.answer c.entry_of-in-Over.ensures

pub returns-in-Over-clause-picture : goal.returns-in-Over-clause-picture
returns-in-Over-clause-picture g c =
    no_picture (g.M.Machine.state c.args.machine.now) event.Over c.args.event c.over.result c.entry_of-in-Over.result tt c.over.ensures.answer c.entry_of-in-Over.ensures
