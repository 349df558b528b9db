use Rattle.std.proofs.Common.{rules, not}
use Rattle.std.proofs.lemmas.Fn.{filter_same}
use Rattle.vz_ids.specs.Ids.{same_surface}
use Rattle.vz_surfaces.specs.declared.standing.Numbered.{Numbered}
use Rattle.vz_surfaces.proofs.standing.forget.Goals as goal

pub returns : goal.returns
returns c = filter_same _ (λ (x : Numbered). not (same_surface x.id c.args.id.now)) _ (λ x b f' k. search rules) _ _ c.retain.ensures.filtered
