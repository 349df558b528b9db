use Rattle.std.proofs.Common.{length, ap, subst, ◌∙◌}
use Rattle.std.specs.List.{IsDistinct}
use Rattle.indexmap.specs.IndexMap.{keys}
use Rattle.vz_refs.proofs.Keyed.{surfaces}
use Rattle.vz_refs.proofs.Indexed.{counts_set, same_length}
use Rattle.vz_refs.proofs.sets.Sets.len.Goals as goal

pub returns : goal.returns
returns c =
    c.len.ensures.len
    ∙ same_length c.self.inside.listing c.self.inside.counts.entries c.self.invariant.once (subst (λ eq. IsDistinct eq (keys c.self.inside.counts)) surfaces c.len.ensures.unique) (counts_set _ _ _ _ _ c.self.invariant)
    ∙ ap (λ v. length v.list) c.self.view_is
