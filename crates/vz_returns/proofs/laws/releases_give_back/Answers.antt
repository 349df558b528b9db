use Rattle.vz_returns.proofs.Given_back.{returns_are, counts_after}
use Rattle.vz_returns.proofs.laws.releases_give_back.Goals as goal

pub returns-clause-returns : goal.returns-clause-returns
returns-clause-returns c = λ w d h ids counts up o. returns_are w d h ids counts up o

pub returns-clause-counts : goal.returns-clause-counts
returns-clause-counts c = λ w d h ids counts up o. counts_after w d h ids counts up o
