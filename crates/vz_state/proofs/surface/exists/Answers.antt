use Rattle.std.proofs.Common.{not, ◌&&◌, rules, sym, ◌∙◌}
use Rattle.std.proofs.lemmas.Iterator.{YieldsList-from_slice}
use Rattle.std.proofs.lemmas.Iterator.Search.{any_from_yields_List}
use Rattle.vz_ids.specs.Ids.{same_surface}
use Rattle.vz_rules.specs.World.{Surface}
use Rattle.vz_rules.proofs.Members.{found}
use Rattle.vz_state.proofs.surface.exists.Goals as goal

pub returns : goal.returns
returns c =
    let all = c.args.surfaces.now in
    let some = any_from_yields_List (λ (s : Surface). same_surface s.id c.args.id.now && not s.destroyed) _ _ _ c.any.ensures.ran (YieldsList-from_slice all cc) (λ x b q k. search rules) in
    some ∙ sym (found (λ (s : Surface). same_surface s.id c.args.id.now && not s.destroyed) all)
