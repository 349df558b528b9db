use Rattle.vz_scene.proofs.Known.{damage_more}
use Rattle.vz_scene.proofs.claims.known_damage.Goals as goal

pub returns-clause-known : goal.returns-clause-known
returns-clause-known c =
    damage_more c.args.last.now c.args.accepted.now c.args.known.now c.insert.new.self c.args.submitted.now c.frame_key-key.result c.damage_since-damage.result c.frame_key-key.ensures
    c.in_ok-insert.ensures.updates.0 c.damage_since-damage.ensures.value c.damage_since-damage.ensures.reach c.requires
