use Rattle.vz_display.proofs.Histories.{drawn_is, written_is, steps_is, other_is}
use Rattle.vz_display.proofs.laws.histories_are_shown.Goals as goal

pub returns-clause-drawn : goal.returns-clause-drawn
returns-clause-drawn c = drawn_is

pub returns-clause-written : goal.returns-clause-written
returns-clause-written c = written_is

pub returns-clause-steps : goal.returns-clause-steps
returns-clause-steps c = steps_is

pub returns-clause-other : goal.returns-clause-other
returns-clause-other c = other_is
