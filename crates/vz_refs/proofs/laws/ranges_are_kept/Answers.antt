use Rattle.vz_refs.proofs.Keeping.{set_ranges, set_has, removed_ranges, removed_has}
use Rattle.vz_refs.proofs.laws.ranges_are_kept.Goals as goal

pub returns-clause-set : goal.returns-clause-set
returns-clause-set c = set_ranges

pub returns-clause-has_set : goal.returns-clause-has_set
returns-clause-has_set c = set_has

pub returns-clause-removed : goal.returns-clause-removed
returns-clause-removed c = removed_ranges

pub returns-clause-has_removed : goal.returns-clause-has_removed
returns-clause-has_removed c = removed_has
