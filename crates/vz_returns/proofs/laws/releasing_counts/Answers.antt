use Rattle.vz_returns.proofs.Releases.{received_released, alive_released, rising_released, some_released}
use Rattle.vz_returns.proofs.laws.releasing_counts.Goals as goal

pub returns-clause-received : goal.returns-clause-received
returns-clause-received c = λ h id j. received_released j id h

pub returns-clause-alive : goal.returns-clause-alive
returns-clause-alive c = λ h id j. alive_released j id h

pub returns-clause-rising : goal.returns-clause-rising
returns-clause-rising c = λ h id. rising_released id h

pub returns-clause-some : goal.returns-clause-some
returns-clause-some c = λ h id. some_released id h
