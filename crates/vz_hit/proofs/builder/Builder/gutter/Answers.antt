use Rattle.std.proofs.Common.{true, false, ap, sym, ◌∙◌}
use Rattle.vz_ids.specs.declared.SurfaceId.{SurfaceId}
use Rattle.vz_ids.specs.Ids.{same_surface}
use Rattle.vz_hit.proofs.Adding.{adds_none, adds_then, adds_as}
use Rattle.vz_hit.proofs.Guttering.{gutter_is, no_gutter, same_joined}
use Rattle.vz_hit.proofs.builder.Builder.gutter.Goals as goal

pub returns : goal.returns
returns c =
    adds_as _ _ _ _
    (gutter_is c.args.self.now c.args.range.now c.args.seen.now c.args.place.now c.window-window.result c.right_from.result c.down_from.result c.past_size-past.result c.window-window.ensures
    c.past_size-past.ensures.value c.requires.corner (ap (λ (x : SurfaceId). same_surface x c.args.range.now.end) (sym c.id.ensures) ∙ same_joined c.id.result c.args.range.now.end false (sym c.eq.ensures ∙ c.if-eq.false)) c.right_from.ensures c.down_from.ensures)
    (adds_then _ _ _ _ _ c.in_ok-put.ensures c.in_ok-put-2.ensures)

pub returns-then-eq : goal.returns-then-eq
returns-then-eq c =
    adds_none _ _
    (no_gutter c.args.self.now c.args.range.now c.args.seen.now c.args.place.now
    (ap (λ (x : SurfaceId). same_surface x c.args.range.now.end) (sym c.id.ensures) ∙ same_joined c.id.result c.args.range.now.end true (sym c.eq.ensures ∙ c.if-eq.true)))
