use Rattle.std.proofs.Common.{arith}
use Rattle.vz_surface_manager.proofs.Set_of_surfaces.{got, inserted}
use Rattle.vz_surface_manager.proofs.index.insert_all.Goals as goal

pub loop-id-preserved : goal.loop-id-preserved
loop-id-preserved c = (
  λ id. inserted c.args.ids.now c.loop-id.id-index _ c.args.set.now.keys c.loop-id.set.keys c.insert.new.self.keys id c.loop-id-test.true
      (c.loop-id.invariant.0 id)
      (got c.insert.result c.unwrap.result _ c.unwrap.ensures c.insert.ensures.keys),
  omega (arith, c.loop-id.invariant.1, c.insert.ensures.spare),
)
