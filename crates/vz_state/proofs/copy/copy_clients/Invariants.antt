use Rattle.std.proofs.Common.{◌≡◌, take}
use Rattle.vz_state.proofs.copy.copy_clients.Given as goal

-- the clients so far
abbrev pub invariant-loop-client : goal.invariant-loop-client
invariant-loop-client l = l.copies.items ≡ take l.client-index l.clients
