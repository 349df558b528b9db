use Rattle.std.proofs.Common.{Some, ap, sym, ◌∙◌}
use Rattle.vz_ids.specs.declared.SurfaceId.{SurfaceId}
use Rattle.vz_geom.specs.Rectangle.{plus}
use Rattle.vz_hit.specs.Hitting.{Stand, in_window, own}
use Rattle.vz_hit.proofs.Adding.{adds_none, adds_put, adds_as}
use Rattle.vz_hit.proofs.Answering.{nothing_in}
use Rattle.vz_hit.proofs.builder.Builder.put.Goals as goal

pub returns-then-is_empty : goal.returns-then-is_empty
returns-then-is_empty c = adds_none _ _ (nothing_in c.args.area (own c.args.self.now) (sym c.is_empty.ensures.value ∙ c.if-is_empty.true))

pub returns : goal.returns
returns c =
    adds_as _ _ _ _
    (λ p. ap (λ (id : SurfaceId). in_window c.args.area (λ q. Some (id, plus q c.self.inside.shift)) p) c.id.ensures
    ∙ ap (λ (s : Stand). in_window c.args.area (own s) p) c.self.view_is)
    (adds_put _ _ _ c.in_ok-put.ensures)
