use Rattle.std.proofs.Common.{not, rules, ap, ◌∙◌}
use Rattle.std.specs.Map.{lookup}
use Rattle.indexmap.proofs.CallerLemmas.{filter-RetainsPairs}
use Rattle.vz_ids.specs.Ids.{same_sink}
use Rattle.vz_refs.specs.Indexing.{same_place}
use Rattle.vz_refs.proofs.Same.{from_place}
use Rattle.vz_refs.proofs.Groups.{by_key}
use Rattle.vz_refs.proofs.seats.keep_other_places.Goals as goal

pub returns-clause-names : goal.returns-clause-names
returns-clause-names c p =
    ap (lookup (same_place p)) (filter-RetainsPairs _ (λ e. not (same_sink e.0.group.sink c.args.sink)) _ (λ k v b w g h. search rules) c.args.names.now.entries c.retain.new.self.entries c.retain.ensures.filtered)
    ∙ by_key same_place from_place (λ p. not (same_sink p.group.sink c.args.sink)) c.args.names.now.entries p
