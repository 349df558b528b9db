use Rattle.std.proofs.Common.{subst}
use Rattle.vz_rules.specs.Kept.{IsWhole}
use Rattle.vz_hit.specs.Hitting.{Stand}
use Rattle.vz_hit.proofs.builder.Builder.passes.Goals as goal

pub returns-clause-whole : goal.returns-clause-whole
returns-clause-whole c = subst (λ (s : Stand). IsWhole s.seen) c.self.view_is c.self.invariant.whole
