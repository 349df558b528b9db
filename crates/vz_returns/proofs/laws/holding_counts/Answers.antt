use Rattle.vz_returns.proofs.{Orders.rising_put, Releases.received_shared, Releases.alive_shared, Releases.some_shared}
use Rattle.vz_returns.proofs.laws.holding_counts.Goals as goal

pub returns-clause-received : goal.returns-clause-received
returns-clause-received c = λ h id j. received_shared j id h

pub returns-clause-alive : goal.returns-clause-alive
returns-clause-alive c = λ h id j. alive_shared j id h

pub returns-clause-rising : goal.returns-clause-rising
returns-clause-rising c = λ h id. rising_put _ h.counted

pub returns-clause-some : goal.returns-clause-some
returns-clause-some c = λ h id. some_shared id h
