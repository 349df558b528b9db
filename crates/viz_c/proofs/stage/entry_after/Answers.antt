use Rattle.std.proofs.Common.{refl}
use Rattle.vz_rules.specs.declared.entry.Event.TheVariants as event
use Rattle.viz_c.proofs.Stepped.{entry_is}
use Rattle.viz_c.proofs.stage.entry_after.Goals as goal

pub returns-in_ok-client-in-Client-clause-entry : goal.returns-in_ok-client-in-Client-clause-entry
returns-in_ok-client-in-Client-clause-entry c =
    entry_is c.args.machine.now.machine (event.Client c.in-Client.client) c.args.event (event.Client c.in-Client.client)
    c.in_ok-client-in-Client.field-0 c.entry_of.result c.in-Client.is refl c.in_ok-client-in-Client.ensures.answer c.entry_of.ensures

pub returns-in_ok-begin-in-Begin-clause-entry : goal.returns-in_ok-begin-in-Begin-clause-entry
returns-in_ok-begin-in-Begin-clause-entry c =
    entry_is c.args.machine.now.machine event.Begin c.args.event c.args.event c.in_ok-begin-in-Begin.field-0 c.entry_of-in-Begin.result
    c.in-Begin.is c.in-Begin.is c.in_ok-begin-in-Begin.ensures.answer c.entry_of-in-Begin.ensures

pub returns-in-Done-clause-entry : goal.returns-in-Done-clause-entry
returns-in-Done-clause-entry c =
    entry_is c.args.machine.now.machine event.Done c.args.event c.args.event c.done.result c.entry_of-in-Done.result c.in-Done.is
    c.in-Done.is c.done.ensures.answer c.entry_of-in-Done.ensures

pub returns-in-Over-clause-entry : goal.returns-in-Over-clause-entry
returns-in-Over-clause-entry c =
    entry_is c.args.machine.now.machine event.Over c.args.event c.args.event c.over.result c.entry_of-in-Over.result c.in-Over.is
    c.in-Over.is c.over.ensures.answer c.entry_of-in-Over.ensures
