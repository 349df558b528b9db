use Rattle.std.proofs.Common.{◌≡◌, take}
use Rattle.vz_state.specs.Outs.{all_outs}
use Rattle.vz_state.proofs.returns.outs_of.Given as goal

-- the resources of the clients so far
abbrev pub invariant-loop-client : goal.invariant-loop-client
invariant-loop-client l = l.total ≡ all_outs (take l.client-index l.clients)
