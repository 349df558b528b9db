use Rattle.std.proofs.Common.{List, ap, ◌∙◌}
use Rattle.std.specs.Option.{option_map}
use Rattle.vz_rules.specs.World.{FrameData}
use Rattle.vz_rules.specs.Walk.{walk_of}
use Rattle.vz_rules.specs.Damage.{aggregation_of}
use Rattle.vz_damage.specs.Accepted.{scene_from}
use Rattle.vz_damage.specs.Measured.{told_damage, without_indices}
use Rattle.vz_damage.proofs.Entering.{measured_is_drawn, tells_drawn}
use Rattle.vz_damage.proofs.laws.measured_damages_are_drawn.Goals as goal

pub returns-clause-damage : goal.returns-clause-damage
returns-clause-damage c w told size root keeps tells =
    ap (λ (l : List FrameData). told_damage size (option_map without_indices w.last) told root (walk_of size
    (record { root = root; active = l }))) (c.stores_tell.ensures.seen w keeps)
    ∙ measured_is_drawn w told size root keeps tells

pub returns-clause-remembered : goal.returns-clause-remembered
returns-clause-remembered c w size root keeps =
    ap (λ (l : List FrameData). aggregation_of (record { root = root; active = l }) (walk_of size (record { root = root; active = l })))
    (c.stores_tell.ensures.seen w keeps)

pub returns-clause-told : goal.returns-clause-told
returns-clause-told c w a old new size root keeps tells follows = tells_drawn w a old new root (walk_of size
    (scene_from root w)) keeps tells follows
