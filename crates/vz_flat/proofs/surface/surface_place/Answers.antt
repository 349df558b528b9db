use Rattle.vz_flat.proofs.Sizes.{held_fits}
use Rattle.vz_flat.proofs.surface.surface_place.Goals as goal

pub frame_rect-size-requires : goal.frame_rect-size-requires
frame_rect-size-requires c = held_fits c.frame.result.now c.held.result.now c.args.seen.now c.frame.ensures c.held.ensures c.requires.whole
