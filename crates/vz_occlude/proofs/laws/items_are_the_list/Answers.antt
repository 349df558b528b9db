use Rattle.vz_occlude.proofs.Parsed.{items_are, read_again}
use Rattle.vz_occlude.proofs.laws.items_are_the_list.Goals as goal

pub returns-clause-list : goal.returns-clause-list
returns-clause-list c = items_are

pub returns-clause-again : goal.returns-clause-again
returns-clause-again c = read_again
