use Rattle.vz_occlude.proofs.Valued.{kept_value, whole_kept, kept_no_deeper}
use Rattle.vz_occlude.proofs.laws.kept_is_the_same.Goals as goal

pub returns-clause-same : goal.returns-clause-same
returns-clause-same c = kept_value

pub returns-clause-whole : goal.returns-clause-whole
returns-clause-whole c = whole_kept

pub returns-clause-deep : goal.returns-clause-deep
returns-clause-deep c = kept_no_deeper
