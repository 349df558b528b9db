-- The walk through a scene with another limit on the surfaces of a path.
use Rattle.std.specs.Prelude.{ℕ, Some, None, List, [], ◌∷◌}
use Rattle.vz_geom.specs.declared.Size.{Size}
use Rattle.vz_rules.specs.World.{Scene, frame_on}
use Rattle.vz_rules.specs.Walk.{Visit, Enters, whole, walk}

-- the walk from the root surface, with at most so many surfaces on a path
unfoldable pub walk_over : ℕ → Size → Scene → List Visit
walk_over n size scene =
    elim (frame_on scene.root scene.active) [
      | None ↦ []
      | Some i ↦ Enters 1 i (whole size) ∷ walk n scene.active [] i (whole size)
    ]
