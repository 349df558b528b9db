use Rattle.std.proofs.Common.{Option, List, ap, ◌∙◌}
use Rattle.vz_rules.specs.{World.FrameData, World.Aggregation, Walk.walk_of}
use Rattle.vz_walk.specs.Scenes.{walked_in}
use Rattle.std.specs.Option.{option_map}
use Rattle.vz_damage.proofs.Entering.{measured_is_drawn}
use Rattle.vz_surfaces.proofs.Telling.{seen_all}
use Rattle.vz_surfaces.specs.Stored.{stored_of}
use Rattle.vz_damage.specs.Measured.{told_damage, without_indices}
use Rattle.vz_surface_manager.proofs.{Read.tells_last, Seen.reply_drawn}
use Rattle.vz_surface_manager.proofs.damage_laws.damages_tell.Goals as goal

pub returns-clause-last : goal.returns-clause-last
returns-clause-last c = tells_last

pub returns-clause-reply : goal.returns-clause-reply
returns-clause-reply c p w root d keeps draws told =
    reply_drawn p w root draws d _ told
    (ap (λ (o : Option Aggregation). told_damage p.size o d.surfaces root (walked_in p.size root (stored_of w))) told.last
    ∙ (ap (λ (l : List FrameData). told_damage p.size (option_map without_indices w.last) d.surfaces root (walk_of p.size
    (record { root = root; active = l }))) (seen_all w keeps)
    ∙ measured_is_drawn w d.surfaces p.size root keeps (tells_last w d keeps told)))
