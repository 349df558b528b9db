use Rattle.std.proofs.Common.{◌≡◌, take}
use Rattle.std.specs.List.{flat_map}
use Rattle.vz_rules.specs.Damage.{claims_of}
use Rattle.vz_scene.specs.Order.{AreDamages}
use Rattle.vz_scene.proofs.claims.all_claims.Given as goal

-- the claims of the visits so far, and the damages that they wanted
abbrev pub invariant-loop-visit : goal.invariant-loop-visit
invariant-loop-visit l =
    record {
      claims : l.all.items ≡ flat_map (claims_of l.last l.accepted) (take l.visit-index l.visits);
      known : AreDamages l.last l.accepted l.known;
    }
