use Rattle.std.proofs.Common.{◌∙◌, ap}
use Rattle.vz_flat.specs.Ops.{is_whole}
use Rattle.vz_flat.proofs.Rooted.{from_empty, scene_is_whole, scene_is_painted}
use Rattle.vz_flat.proofs.scene.flatten.Goals as goal

pub unreachable-requires : goal.unreachable-requires
unreachable-requires c =
    let drawn = from_empty c.args.size c.args.store.now c.args.root.now c.grow.new.ops.items c.put_root.new.ops.items (c.in_ok-grow.ensures.same ∙ c.new-ops.ensures.items) c.in_ok-put_root.ensures in
    let no = c.in-Err.ensures.exactly.1
    (ap is_whole c.from_vec.ensures ∙ scene_is_whole c.args.size c.args.store.now c.args.root.now c.put_root.new.ops.items c.requires.frames drawn) in
    absurd (cc)

pub returns : goal.returns
returns c =
    record {
      painted = λ p inside.
          scene_is_painted c.args.size c.args.store.now c.args.root.now c.put_root.new.ops.items c.in-Ok.ops p c.requires.bounded inside
          (from_empty c.args.size c.args.store.now c.args.root.now c.grow.new.ops.items c.put_root.new.ops.items (c.in_ok-grow.ensures.same ∙ c.new-ops.ensures.items) c.in_ok-put_root.ensures)
          (c.in-Ok.ensures.ok ∙ c.from_vec.ensures);
    }
