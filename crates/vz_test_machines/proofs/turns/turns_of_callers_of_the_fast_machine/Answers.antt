use denote.Param.Send.{sendable}
use Rattle.vz_manager.proofs.Crossing.{manager_send}
use Rattle.vz_test_machines.proofs.turns.turns_of_callers_of_the_fast_machine.Goals as goal

pub tells_turns-requires-send-M : goal.tells_turns-requires-send-M
tells_turns-requires-send-M g c = search (manager_send, sendable) depth 20
