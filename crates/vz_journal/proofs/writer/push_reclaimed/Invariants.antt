use Rattle.std.proofs.Common.{◌≡◌, ◌++◌, ◌∷◌, take, string_bytes}
use Rattle.std.specs.List.{flat_map}
use Rattle.vz_rules.specs.Log.{with_count}
use Rattle.vz_journal.proofs.writer.push_reclaimed.Given as goal

-- the items so far
abbrev pub invariant-loop-back : goal.invariant-loop-back
invariant-loop-back l =
    string_bytes l.out ≡ string_bytes l.initial.out ++ flat_map (λ r. 32 ∷ with_count r.id r.count) (take l.back-index l.returns)
