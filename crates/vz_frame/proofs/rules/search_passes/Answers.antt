use Rattle.std.proofs.Common.{refl}
use Rattle.vz_frame.specs.Checking.{in_passes}
use Rattle.vz_frame.proofs.Tabling.{passes_step}
use Rattle.vz_frame.proofs.rules.search_passes.Goals as goal

-- no passes yet
pub loop-place-init : goal.loop-place-init
unfolding in_passes
loop-place-init c = refl

-- one pass more
pub loop-place-preserved : goal.loop-place-preserved
loop-place-preserved c =
    passes_step c.args.listed.now c.args.passes.now c.args.by_id.now c.loop-place.place c.index-passes-place.result c.as_slice.result.now
    c.loop-place.found c.search_quads-in_quads.result c.join-found.result c.covers.result
    c.requires c.loop-place-test.true c.index-passes-place.is c.as_slice.ensures c.loop-place.invariant c.search_quads-in_quads.ensures c.join-found.ensures c.covers.ensures.value
