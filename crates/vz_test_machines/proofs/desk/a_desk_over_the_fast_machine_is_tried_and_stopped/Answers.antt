use denote.Param.Send.{sendable}
use Rattle.vz_manager.proofs.Crossing.{manager_send}
use Rattle.vz_test_machines.proofs.desk.a_desk_over_the_fast_machine_is_tried_and_stopped.Goals as goal

pub is_tried_and_stopped-requires-send-M : goal.is_tried_and_stopped-requires-send-M
is_tried_and_stopped-requires-send-M g c = search (manager_send, sendable) depth 20
