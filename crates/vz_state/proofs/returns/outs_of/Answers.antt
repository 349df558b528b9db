use Rattle.std.proofs.Common.{◌+◌, take, refl, sym, ap, ◌∙◌}
use Rattle.vz_rules.specs.World.{Client}
use Rattle.vz_state.specs.Outs.{outs, all_outs}
use Rattle.vz_state.proofs.Rooming.{outs_more}
use Rattle.vz_state.proofs.returns.outs_of.Goals as goal

pub loop-client-init : goal.loop-client-init
unfolding all_outs
loop-client-init c = refl

pub loop-client-preserved : goal.loop-client-preserved
loop-client-preserved c =
    c.in-Some.ensures.1
    ∙ (ap (λ n. n + c.outs.result) c.loop-client.invariant
    ∙ (ap (λ n. all_outs (take c.loop-client.client-index c.args.clients.now) + n) (c.outs.ensures ∙ ap (λ (x : Client). outs x.resources) c.client-item.is)
    ∙ sym (outs_more c.args.clients.now c.loop-client.client-index c.client-item.result c.loop-client-test.true)))
