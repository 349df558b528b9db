use Rattle.vz_deps.proofs.Rounds.{frees_more, still_more}
use Rattle.vz_deps.proofs.laws.blocked_are_freed.Goals as goal

pub returns-clause-freed : goal.returns-clause-freed
returns-clause-freed c subs met more = frees_more met more subs

pub returns-clause-still : goal.returns-clause-still
returns-clause-still c subs met more = still_more met more subs
