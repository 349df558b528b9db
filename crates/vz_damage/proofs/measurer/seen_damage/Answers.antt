use Rattle.std.proofs.Common.{ap, ◌∙◌}
use Rattle.vz_frame.specs.declared.frame.CompositorFrame.{CompositorFrame}
use Rattle.vz_frame.specs.Frame.{frame_size}
use Rattle.vz_geom.specs.Rectangle.{Rectangle, meet, moved, sized}
use Rattle.vz_surfaces.specs.declared.held.Held.{Held}
use Rattle.vz_damage.proofs.Claiming.{seen_is}
use Rattle.vz_damage.proofs.measurer.seen_damage.Goals as goal

pub returns-clause-value : goal.returns-clause-value
returns-clause-value c =
    let place = c.args.place.now in
    let damage = c.args.damage.now in
    c.intersect.ensures.value
    ∙ (ap (λ (w : Rectangle). meet w c.moved.result) c.window.ensures
    ∙ (ap (meet place.window) (c.moved.ensures ∙ (ap (moved c.inside_frame-part.result) c.shift.ensures.value
    ∙ ap (λ (r : Rectangle). moved r place.shift)
    (c.inside_frame-part.ensures.value ∙ ap (λ (f : CompositorFrame). meet (sized (frame_size f)) damage)
    (c.frame.ensures ∙ ap (λ (h : Held). h.frame) c.held.ensures))))
    ∙ seen_is place.window (sized (frame_size c.args.frame.now.frame)) damage place.shift))
