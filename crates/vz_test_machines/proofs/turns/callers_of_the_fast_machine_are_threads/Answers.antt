use denote.Param.Send.{sendable}
use Rattle.vz_manager.proofs.Crossing.{manager_send}
use Rattle.vz_test_machines.proofs.turns.callers_of_the_fast_machine_are_threads.Goals as goal

pub has_threads-requires-send-M : goal.has_threads-requires-send-M
has_threads-requires-send-M g c = search (manager_send, sendable) depth 20
