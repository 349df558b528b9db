use Rattle.std.proofs.Common.{◌≡◌}
use Rattle.indexmap.specs.IndexMap.{spare}
use Rattle.vz_damage.proofs.Looking.{seen_to, last_in}
use Rattle.vz_damage.proofs.damage.Damage.aggregated.Given as goal

abbrev pub invariant-loop-place : goal.invariant-loop-place
invariant-loop-place l =
    (l.self-inside.surfaces.entries ≡ seen_to l.place l.initial.self-inside.surfaces.entries) ×
    (spare l.self-inside.surfaces ≡ spare l.initial.self-inside.surfaces)
    × (last_in l.self-inside.root l.self-inside.shown ≡ last_in l.initial.self-inside.root l.initial.self-inside.shown)
