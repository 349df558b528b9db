use Rattle.std.proofs.Common.{◌≡◌, take}
use Rattle.vz_state.proofs.copy.copy_queue.Given as goal

-- the queue so far
abbrev pub invariant-loop-returned : goal.invariant-loop-returned
invariant-loop-returned l = l.room.list ≡ take l.returned-index l.queue
