use Rattle.vz_surfaces.proofs.Leading.{one_placed}
use Rattle.vz_surfaces.proofs.named.places_in.Goals as goal

pub loop-quad-preserved : goal.loop-quad-preserved
loop-quad-preserved c =
    one_placed c.args.frame.now c.args.pass c.args.quads.now c.loop-quad.quad-index c.quad-item.result c.loop-quad.places.items _ c.place_named.result
    c.loop-quad-test.true c.quad-item.is c.loop-quad.invariant c.in_ok-push.ensures.items c.place_named.ensures
