use Rattle.std.proofs.Common.{List, Some, ap, ◌∙◌}
use Rattle.vz_rules.specs.{World.FrameData, Walk.walk_of, Damage.aggregation_of}
use Rattle.vz_surfaces.proofs.Telling.{seen_all}
use Rattle.vz_damage.specs.Measured.{without_indices}
use Rattle.vz_surface_manager.proofs.Seen.{told_drawn}
use Rattle.vz_surface_manager.proofs.damage_laws.damages_are_seen.Goals as goal

pub returns : goal.returns
returns c p w root old new keeps draws told tells last =
    told_drawn p w root draws old new told tells
    (last ∙ ap (λ (l : List FrameData). Some (without_indices (aggregation_of (record { root = root; active = l })
    (walk_of p.size (record { root = root; active = l }))))) (seen_all w keeps))
