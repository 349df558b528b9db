use Rattle.vz_turn.proofs.Counting.{exact_brief}
use Rattle.vz_turn.proofs.laws.returns_are_counted.Goals as goal

pub returns : goal.returns
returns c = record { counted = exact_brief }
