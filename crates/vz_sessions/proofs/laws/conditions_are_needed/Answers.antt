use Rattle.vz_sessions.proofs.Grown_goes_on.{room_needed}
use Rattle.vz_sessions.proofs.Told_none_left.{never_told}
use Rattle.vz_sessions.proofs.Worked_once.{silent_is_plan, told_is_legal, told_is_wrong}
use Rattle.vz_sessions.proofs.laws.conditions_are_needed.Goals as goal

pub returns : goal.returns
returns c = record { never = never_told; room = room_needed; worked = (silent_is_plan, told_is_legal, told_is_wrong) }
