use Rattle.std.proofs.Common.{not, rules, ap, ◌∙◌}
use Rattle.std.specs.Map.{lookup}
use Rattle.indexmap.proofs.CallerLemmas.{filter-RetainsPairs}
use Rattle.vz_ids.specs.Ids.{same_sink}
use Rattle.vz_refs.specs.Indexing.{same_key, or_zero}
use Rattle.vz_refs.proofs.Same.{from_key}
use Rattle.vz_refs.proofs.Seating.{sized_left}
use Rattle.vz_refs.proofs.Groups.{by_key}
use Rattle.vz_refs.proofs.seats.keep_other_groups.Goals as goal

pub returns-clause-sizes : goal.returns-clause-sizes
returns-clause-sizes c g =
    ap or_zero
    (ap (lookup (same_key g)) (filter-RetainsPairs _ (λ e. not (same_sink e.0.sink c.args.sink)) _ (λ k v b w f h. search rules) c.args.sizes.now.entries c.retain.new.self.entries c.retain.ensures.filtered)
    ∙ by_key same_key from_key (λ g. not (same_sink g.sink c.args.sink)) c.args.sizes.now.entries g)
    ∙ sized_left (not (same_sink g.sink c.args.sink)) (lookup (same_key g) c.args.sizes.now.entries)
