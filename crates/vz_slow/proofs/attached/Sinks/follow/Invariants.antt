use Rattle.std.proofs.Common.{◌≡◌, drop}
use Rattle.vz_ids.specs.Ids.{same_sink}
use Rattle.vz_rules.specs.Closure.{adding}
use Rattle.vz_rules.specs.Messages.{children}
use Rattle.vz_slow.proofs.attached.Sinks.follow.Given as goal

-- the children that are left come behind those that are there
abbrev pub invariant-loop-relation : goal.invariant-loop-relation
invariant-loop-relation l =
    adding same_sink l.self (children (drop l.relation-index l.relations) l.from) ≡ adding same_sink l.initial.self (children l.relations l.from)
