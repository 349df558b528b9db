use Rattle.std.proofs.Common.{List, length, ap, arith}
use Rattle.std.specs.List.{filter_map}
use Rattle.vz_rules.specs.World.{Resource}
use Rattle.vz_rules.specs.Returns.{queue_resource, return_of}
use Rattle.vz_state.specs.Outs.{outs}
use Rattle.vz_state.proofs.Placed.{placed_map}
use Rattle.vz_state.proofs.Rooming.{outs_after}
use Rattle.vz_state.proofs.client.Client.give_back.Goals as goal

pub invariant_of-self : goal.invariant_of-self
invariant_of-self c =
    let w = c.args.holders.now in
    let n = c.self.inside.number in
    let old = c.self.inside.resources.items in
    let was = c.deref_mut.ensures.value in
    let placed = ap outs (placed_map c.self.inside.resources (queue_resource w n) _ c.give_back_all.new.resources c.give_back_all.auto.resources c.deref_mut.ensures.len was c.give_back_all.ensures.resources) in
    let after = outs_after w n old in
    let put = c.give_back_all.ensures.queued.spare in
    let same = ap (λ (l : List Resource). length (filter_map (return_of w n) l)) was in
    let kept = c.self.invariant in
    omega arith
