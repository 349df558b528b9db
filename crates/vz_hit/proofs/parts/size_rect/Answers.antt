use Rattle.std.proofs.Common.{ap, ◌∙◌}
use Rattle.vz_geom.specs.Rectangle.{sized}
use Rattle.vz_frame.specs.declared.frame.CompositorFrame.{CompositorFrame}
use Rattle.vz_frame.specs.Frame.{frame_size}
use Rattle.vz_surfaces.specs.declared.held.Held.{Held}
use Rattle.vz_flat.proofs.Sizes.{held_fits}
use Rattle.vz_hit.proofs.parts.size_rect.Goals as goal

pub frame_rect-requires : goal.frame_rect-requires
frame_rect-requires c = held_fits c.frame.result.now c.held.result.now c.args.seen.now c.frame.ensures c.held.ensures c.requires

pub returns-clause-value : goal.returns-clause-value
returns-clause-value c =
    c.frame_rect.ensures.value
    ∙ ap (λ (f : CompositorFrame). sized (frame_size f)) (c.frame.ensures ∙ ap (λ (h : Held). h.frame) c.held.ensures)
