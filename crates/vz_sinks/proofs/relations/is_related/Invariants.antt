use Rattle.std.proofs.Common.{◌≡◌, drop}
use Rattle.vz_rules.specs.Messages.{is_related}
use Rattle.vz_sinks.proofs.relations.is_related.Given as goal

-- the answer is that of those that are left
abbrev pub invariant-loop-relation : goal.invariant-loop-relation
invariant-loop-relation l = is_related l.relations l.parent l.child ≡ is_related (drop l.relation-index l.relations) l.parent l.child
