use Rattle.std.proofs.Common.{◌≡◌, ℕ, ◌<◌, false}
use Rattle.indexmap.specs.IndexMap.{get}
use Rattle.vz_refs.specs.Indexing.{same_nth, same_place}
use Rattle.vz_refs.proofs.Indexed.{named_at}
use Rattle.vz_refs.proofs.sets.Sets.is_named.Given as goal

-- none of those before names the surface
abbrev pub invariant-loop-at : goal.invariant-loop-at
invariant-loop-at l =
    (k : ℕ) → k < l.at → named_at (get same_nth l.self-inside.edges) (get same_place l.self-inside.ends) l.id (record { group = l.group; at = k }) ≡ false
