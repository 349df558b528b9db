use Rattle.std.proofs.Common.{◌≡◌, drop}
use Rattle.vz_ids.specs.Ids.{same_surface}
use Rattle.vz_rules.specs.Closure.{adding}
use Rattle.vz_scene.proofs.surface_set.SurfaceSet.add_all.Given as goal

-- those so far are added
abbrev pub invariant-loop-id : goal.invariant-loop-id
invariant-loop-id l = adding same_surface l.initial.self l.ids ≡ adding same_surface l.self (drop l.id-index l.ids)
