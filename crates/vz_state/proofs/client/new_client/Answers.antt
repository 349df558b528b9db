use Rattle.vz_state.proofs.Lending.{outs_none}
use Rattle.vz_state.proofs.client.new_client.Goals as goal

pub invariant_of-result : goal.invariant_of-result
invariant_of-result c = outs_none c.new.result.items c.new-2.result.spare c.new.ensures.items
