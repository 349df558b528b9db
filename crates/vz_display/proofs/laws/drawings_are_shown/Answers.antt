use Rattle.vz_display.proofs.Drawings.{first_is, more_is, steps_are, current_is}
use Rattle.vz_display.proofs.laws.drawings_are_shown.Goals as goal

pub returns-clause-first : goal.returns-clause-first
returns-clause-first c = first_is

pub returns-clause-more : goal.returns-clause-more
returns-clause-more c = more_is

pub returns-clause-steps : goal.returns-clause-steps
returns-clause-steps c = steps_are

pub returns-clause-current : goal.returns-clause-current
returns-clause-current c = current_is
