use Rattle.std.proofs.Common.{rules, not}
use Rattle.vz_ids.specs.Ids.{same_surface}
use Rattle.vz_surfaces.specs.declared.groups.Link.{Link}
use Rattle.vz_surfaces.proofs.Retaining.{retained_same}
use Rattle.vz_surfaces.proofs.groups.forget.Goals as goal

pub returns : goal.returns
returns c = retained_same _ (λ (l : Link). not (same_surface l.id c.args.id.now)) _ (λ x b t y k. search rules) _ _ c.retain.ensures.filtered
