use Rattle.std.proofs.Common.{is_some, refl, sym, ap, ◌∙◌}
use Rattle.vz_ids.specs.Ids.{same_surface}
use Rattle.vz_refs.specs.Referring.{is_set}
use Rattle.vz_refs.proofs.Keyed.{surfaces, at_key}
use Rattle.vz_refs.proofs.Indexed.{counts_set}
use Rattle.vz_refs.proofs.sets.Sets.has.Goals as goal

pub returns : goal.returns
returns c =
    c.contains_key.ensures ∙ sym (ap is_some (at_key _ same_surface surfaces c.self.inside.counts c.args.id.now _ refl)) ∙ counts_set _ _ _ _ _ c.self.invariant c.args.id.now ∙ ap (λ v. is_set v.list c.args.id.now) c.self.view_is
