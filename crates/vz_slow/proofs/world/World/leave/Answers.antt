use Rattle.std.proofs.Common.{◌∙◌}
use Rattle.vz_rules.specs.Messages.{mark_of}
use Rattle.vz_state.proofs.Placed.{placed_map}
use Rattle.vz_slow.proofs.Answering.{left_is}
use Rattle.vz_slow.proofs.world.World.leave.Goals as goal

pub returns : goal.returns
returns c = λ x h.
    left_is c.args.self.now _ c.args.c x h (c.self.view_is ∙ c.in_ok-change.ensures x h) _
    (placed_map c.self.inside.surfaces (mark_of c.args.c) _ c.mark_client.new.surfaces c.mark_client.auto.surfaces c.deref_mut.ensures.len c.deref_mut.ensures.value c.mark_client.ensures)
