use Rattle.std.proofs.Common.{length, sym, ap, ◌∙◌, subst}
use Rattle.vz_rules.specs.World.{Client}
use Rattle.vz_state.specs.Small.{AreSmallResources}
use Rattle.vz_state.proofs.Lending.{outs_within}
use Rattle.vz_state.proofs.Placed.{placed}
use Rattle.vz_state.proofs.client.Client.lend.Goals as goal

pub lend_all-requires : goal.lend_all-requires
lend_all-requires c = subst AreSmallResources (sym (c.deref_mut.ensures.value ∙ ap (λ (x : Client). x.resources) c.self.view_is)) c.requires

pub invariant_of-self-2 : goal.invariant_of-self-2
invariant_of-self-2 c =
    let now = placed c.self.inside.resources c.deref_mut.result.now c.lend_all.new.resources c.lend_all.auto.resources c.deref_mut.ensures.len in
    outs_within _ c.len.result c.make_room.new.room.spare (ap length now ∙ (c.lend_all.auto.resources ∙ (c.deref_mut.ensures.len ∙ sym c.len.ensures))) c.in_ok-make_room.ensures.ok
