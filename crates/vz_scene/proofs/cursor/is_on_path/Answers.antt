use Rattle.std.proofs.Common.{ap, ◌∙◌}
use Rattle.vz_ids.specs.Ids.{same_surface}
use Rattle.vz_rules.specs.Paint.{on_path}
use Rattle.vz_scene.proofs.Ties.{any_same, compared, surface_sym}
use Rattle.vz_scene.proofs.cursor.is_on_path.Goals as goal

pub returns : goal.returns
returns c =
    let id = c.submitted.inside.id in
    c.contains.ensures.value
    ∙ (any_same _ (same_surface id) c.args.path.now (λ other. compared other id ∙ surface_sym other id) ∙ ap (on_path c.args.path.now) c.submitted.view_is)
