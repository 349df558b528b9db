use Rattle.std.proofs.Common.{nat_lt, nat_eq, rules, ap, ◌∙◌}
use Rattle.std.specs.Map.{lookup}
use Rattle.indexmap.proofs.CallerLemmas.{filter-RetainsPairs}
use Rattle.vz_refs.proofs.Groups.{by_key}
use Rattle.vz_refs.proofs.Ticking.{from_tick}
use Rattle.vz_refs.proofs.temporaries.keep_later.Goals as goal

pub returns-clause-numbers : goal.returns-clause-numbers
returns-clause-numbers c u =
    ap (lookup (nat_eq u)) (filter-RetainsPairs _ (λ e. nat_lt c.args.tick e.0) _ (λ k v b w g h. search rules) c.args.numbers.now.entries c.retain.new.self.entries c.retain.ensures.filtered)
    ∙ by_key nat_eq from_tick (λ u. nat_lt c.args.tick u) c.args.numbers.now.entries u
