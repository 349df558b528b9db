use Rattle.std.proofs.Common.{◌≤◌, ap, ◌∙◌, arith}
use Rattle.vz_state.specs.Outs.{outs}
use Rattle.vz_state.proofs.Lending.{outs_put}
use Rattle.vz_state.proofs.client.Client.change.Goals as goal

pub invariant_of-self : goal.invariant_of-self
invariant_of-self c =
    let room : outs c.self.inside.resources.items ≤ c.self.inside.queue.spare = c.self.invariant in
    let same = ap outs c.in_ok-put-in-Store.ensures.ok ∙ outs_put c.in-Store.id c.in-Store.block.now c.self.inside.resources.items in
    omega arith
