use Rattle.std.proofs.Common.{map, ap, ◌∙◌}
use Rattle.vz_state.specs.Attached.{deliver_by}
use Rattle.vz_state.proofs.Placed.{placed_map}
use Rattle.vz_slow.proofs.Following.{begin_is}
use Rattle.vz_slow.proofs.world.World.begin.Goals as goal

pub returns : goal.returns
returns c =
    begin_is c.args.plan.now c.args.self.now _ c.self.view_is c.in_ok-sinks.sinks.items c.next_tick-tick.result _ c.in_ok-sinks.ensures c.next_tick-tick.ensures.value
    (placed_map c.self.inside.clients (deliver_by c.in_ok-sinks.sinks.items c.next_tick-tick.result) _ c.deliver_all.new.clients c.deliver_all.auto.clients c.deref_mut.ensures.len c.deref_mut.ensures.value
    (c.deliver_all.ensures ∙ ap (λ s. map (deliver_by s c.next_tick-tick.result) c.deref_mut.result.now) c.deref.ensures.value))
