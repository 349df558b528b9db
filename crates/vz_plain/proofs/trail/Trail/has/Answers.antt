use Rattle.std.proofs.Common.{ap, ◌∙◌}
use Rattle.std.specs.List.{list_any}
use Rattle.vz_ids.specs.Ids.{same_surface}
use Rattle.vz_scene.proofs.Ties.{any_same, compared, surface_sym}
use Rattle.vz_plain.proofs.trail.Trail.has.Goals as goal

pub returns : goal.returns
returns c =
    let id = c.args.id.now in
    c.contains.ensures.value
    ∙ (any_same _ (same_surface id) c.as_slice.result.now (λ other. compared other id ∙ surface_sym other id)
    ∙ ap (list_any (same_surface id)) (c.as_slice.ensures.value ∙ (ap (λ v. v.items) c.deref.ensures ∙ c.self.view_is)))
