use Rattle.vz_support.proofs.Messaging.{follows_plain, follows_reclaim, follows_begun, follows_stored, follows_noted, follows_accepted, follows_closed}
use Rattle.vz_support.proofs.laws.clients_follow.Goals as goal

pub returns-clause-taken : goal.returns-clause-taken
returns-clause-taken c = λ p w x old new keeps h here changes.
    (follows_plain p w x old new keeps h here changes, follows_reclaim p w x old new keeps h here changes, follows_begun p w x old new keeps h here changes)

pub returns-clause-stored : goal.returns-clause-stored
returns-clause-stored c = follows_stored

pub returns-clause-noted : goal.returns-clause-noted
returns-clause-noted c = follows_noted

pub returns-clause-accepted : goal.returns-clause-accepted
returns-clause-accepted c = follows_accepted

pub returns-clause-closed : goal.returns-clause-closed
returns-clause-closed c = follows_closed
