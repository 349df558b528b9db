use Rattle.std.proofs.Common.{◌≡◌, ◌++◌, take}
use Rattle.vz_rules.specs.Messages.{children}
use Rattle.vz_state.proofs.sinks.add_children.Given as goal

-- those of the relations so far are appended
abbrev pub invariant-loop-relation : goal.invariant-loop-relation
invariant-loop-relation l = l.all.items ≡ l.initial.all.items ++ children (take l.relation-index l.relations) l.a
