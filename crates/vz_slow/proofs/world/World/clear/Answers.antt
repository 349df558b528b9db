use Rattle.vz_rules.specs.Reach.{destroy, drop_on}
use Rattle.vz_state.proofs.Placed.{placed_map}
use Rattle.vz_slow.proofs.Losing.{clearing_is}
use Rattle.vz_slow.proofs.world.World.clear.Goals as goal

pub returns : goal.returns
returns c =
    let kept = c.args.kept.now in
    let lost = c.args.lost.now in
    clearing_is c.args.self.now _ c.self.view_is kept lost c.requires.kept c.requires.lost _
    (placed_map c.self.inside.surfaces (destroy kept) _ c.destroy_all.new.surfaces c.destroy_all.auto.surfaces c.deref_mut.ensures.len c.deref_mut.ensures.value c.destroy_all.ensures) _
    (placed_map c.self.inside.subs (drop_on lost) _ c.drop_all.new.submissions c.drop_all.auto.submissions c.deref_mut-2.ensures.len c.deref_mut-2.ensures.value c.drop_all.ensures)
