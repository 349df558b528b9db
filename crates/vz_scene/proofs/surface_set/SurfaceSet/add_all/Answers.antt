use Rattle.vz_ids.specs.Ids.{same_surface}
use Rattle.vz_scene.proofs.Gathering.{added_next}
use Rattle.vz_scene.proofs.surface_set.SurfaceSet.add_all.Goals as goal

pub loop-id-preserved : goal.loop-id-preserved
loop-id-preserved c =
    added_next same_surface _ c.loop-id.self c.add.new.self c.args.ids.now c.loop-id.id-index _ c.loop-id-test.true c.in_ok-add.ensures c.loop-id.invariant
