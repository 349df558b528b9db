use Rattle.std.proofs.Common.{◌-◌, ◌<◌, length, arith}
use Rattle.vz_ids.specs.Ids.{at_least}
use Rattle.vz_rules.specs.World.{FrameData}
use Rattle.vz_scene.proofs.Chains.{chain_newest, read_reference, as_many_references}
use Rattle.vz_scene.proofs.group.Group.newest_up_to.Goals as goal

pub index-requires : goal.index-requires
index-requires c =
    omega (arith, c.self.inside.active.ok.0, c.if-count-eq0.false, c.count_up_to-count.ensures.bound, as_many_references c.self.inside.active.items c.args.self.now c.self.view_is)

pub returns : goal.returns
returns c =
    let within : c.count_up_to-count.result - 1 < length c.self.inside.active.items =
    omega (arith, c.if-count-eq0.false, c.count_up_to-count.ensures.bound, as_many_references c.self.inside.active.items c.args.self.now c.self.view_is) in
    chain_newest (λ (i : FrameData). at_least c.args.end.now i.id) c.args.self.now c.count_up_to-count.result c.index.result.now.now c.requires c.count_up_to-count.ensures.point
    (omega (arith, c.if-count-eq0.false)) c.count_up_to-count.ensures.bound (read_reference c.self.inside.active.items c.args.self.now c.index.result.now (c.count_up_to-count.result - 1) c.self.view_is within c.index.ensures)
