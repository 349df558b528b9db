use Rattle.std.proofs.Common.{◌≡◌, ◌++◌, replicate}
use Rattle.vz_rules.specs.declared.entry.Event.TheVariants as event
use Rattle.viz_run.proofs.events.push_messages.Given as goal

abbrev pub invariant-loop : goal.invariant-loop
invariant-loop l = l.events.items ≡ l.fn.events.items ++ replicate l.counter (event.Client l.client)
