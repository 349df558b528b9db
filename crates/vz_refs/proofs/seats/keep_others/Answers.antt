use Rattle.std.proofs.Common.{not, rules, ap, ◌∙◌}
use Rattle.std.specs.Map.{lookup}
use Rattle.std.proofs.lemmas.Map.Entries.{lookup-filter-values}
use Rattle.indexmap.proofs.CallerLemmas.{filter-RetainsPairs}
use Rattle.vz_ids.specs.Ids.{same_sink}
use Rattle.vz_refs.specs.Lasting.{same_name}
use Rattle.vz_refs.proofs.Named.{name_laws}
use Rattle.vz_refs.proofs.seats.keep_others.Goals as goal

pub returns-clause-kept : goal.returns-clause-kept
returns-clause-kept c n =
    ap (lookup (same_name n)) (filter-RetainsPairs _ (λ e. not (same_sink e.1.id.sink c.args.sink)) _ (λ k v b w g h. search rules) c.args.kept.now.entries c.retain.new.self.entries c.retain.ensures.filtered)
    ∙ lookup-filter-values name_laws (λ k. not (same_sink k.id.sink c.args.sink)) n c.args.kept.now.entries c.len.ensures.unique
