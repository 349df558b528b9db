use Rattle.std.proofs.Common.{length, sym, ap, ◌∙◌}
use Rattle.vz_state.proofs.Lending.{outs_within}
use Rattle.vz_state.proofs.Placed.{placed}
use Rattle.vz_state.proofs.client.Client.reclaim.Goals as goal

pub invariant_of-self : goal.invariant_of-self
invariant_of-self c =
    let now = placed c.self.inside.resources c.deref_mut.result.now c.reclaim_all.new.resources c.reclaim_all.auto.resources c.deref_mut.ensures.len in
    outs_within _ c.len.result c.make_room.new.room.spare (ap length now ∙ (c.reclaim_all.auto.resources ∙ (c.deref_mut.ensures.len ∙ sym c.len.ensures))) c.in_ok-make_room.ensures.ok
