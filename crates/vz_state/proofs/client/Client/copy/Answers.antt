use Rattle.std.proofs.Common.{arith}
use Rattle.vz_state.proofs.Lending.{outs_within}
use Rattle.vz_state.proofs.client.Client.copy.Goals as goal

pub invariant_of-result : goal.invariant_of-result
invariant_of-result c =
    let resources = c.in_ok-resources.resources in
    outs_within resources.items c.len.result c.in_ok-queue.queue.spare (omega (arith, resources.ok.0, c.len.ensures)) c.in_ok-queue.ensures.1
