use Rattle.std.proofs.Common.{◌≡◌, ◌≤◌, ◌+◌, length, drop}
use Rattle.vz_ids.specs.Ids.{same_sink}
use Rattle.vz_rules.specs.Closure.{adding}
use Rattle.vz_rules.specs.Messages.{children}
use Rattle.vz_sinks.proofs.reaching.follow.Given as goal

-- the children that are left come behind those that are there
abbrev pub invariant-loop-relation : goal.invariant-loop-relation
invariant-loop-relation l =
    (adding same_sink l.out.list (children (drop l.relation-index l.relations) l.from) ≡ adding same_sink l.fn.out.list (children l.relations l.from))
    × (length l.fn.out.list + l.fn.out.spare ≤ length l.out.list + l.out.spare)
