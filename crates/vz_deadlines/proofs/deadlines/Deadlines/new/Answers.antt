use Rattle.std.proofs.Common.{ap, sym, subst}
use Rattle.indexmap.specs.IndexMap.{get, spare as spare_of}
use Rattle.vz_ids.specs.Ids.{same_sub}
use Rattle.vz_deadlines.specs.Slots.{standing, AreKept}
use Rattle.vz_deadlines.proofs.Keeps.{kept_none}
use Rattle.vz_deadlines.proofs.deadlines.Deadlines.new.Goals as goal

pub invariant_of-result : goal.invariant_of-result
invariant_of-result c = subst (λ l. AreKept l 0 0 (get same_sub c.new-2.result) (spare_of c.new-2.result)) (sym c.new.ensures) (kept_none (get same_sub c.new-2.result) (spare_of c.new-2.result))

pub returns : goal.returns
unfolding standing
returns c = ap standing c.new.ensures
