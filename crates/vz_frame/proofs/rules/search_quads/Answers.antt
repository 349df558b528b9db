use Rattle.std.proofs.Common.{take, refl}
use Rattle.vz_frame.specs.Checking.{in_quads}
use Rattle.vz_frame.proofs.Tabling.{quads_step}
use Rattle.vz_frame.proofs.rules.search_quads.Goals as goal

-- no quads yet
pub loop-quad-init : goal.loop-quad-init
unfolding in_quads
loop-quad-init c = refl

-- one quad more
pub loop-quad-preserved : goal.loop-quad-preserved
loop-quad-preserved c =
    quads_step (take c.args.place c.args.by_id.now) c.args.listed.now c.args.quads.now c.loop-quad.quad-index c.quad-item.result
    c.loop-quad.found c.search_quad.result c.join-found.result c.loop-quad-test.true c.quad-item.is c.loop-quad.invariant c.search_quad.ensures c.join-found.ensures
