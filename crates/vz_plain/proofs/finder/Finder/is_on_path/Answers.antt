use Rattle.std.proofs.Common.{◌&&◌, ◌||◌, ap, ◌∙◌}
use Rattle.std.specs.List.{list_any}
use Rattle.vz_ids.specs.Ids.{same_surface}
use Rattle.vz_plain.specs.Finding.{Finder}
use Rattle.vz_scene.proofs.Ties.{compared}
use Rattle.vz_plain.proofs.Searching.{on_the_path}
use Rattle.vz_plain.proofs.finder.Finder.is_on_path.Goals as goal

pub returns : goal.returns
returns c =
    let id = c.args.id.now in
    let own = c.eq.ensures ∙ (compared id c.id.result ∙ ap (same_surface id) c.id.ensures) in
    (λ j. c.entered.ensures j || (c.self.inside.is_root && own j))
    ∙ (on_the_path c.self.inside.is_root c.self.inside.submitted.now.id id c.self.inside.outer.now ∙ ap (λ (f : Finder). list_any (same_surface id) f.path) c.self.view_is)
