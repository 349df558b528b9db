use Rattle.std.proofs.Common.{◌≡◌, ◌||◌, take}
use Rattle.std.specs.List.{list_any}
use Rattle.vz_ids.specs.declared.SurfaceId.{SurfaceId}
use Rattle.vz_scene.specs.Reached.{is_reached}
use Rattle.vz_state.specs.Rising.{rises_to}
use Rattle.vz_state.proofs.risen.add_risen.Given as goal

-- those so far are added
abbrev pub invariant-loop-other : goal.invariant-loop-other
invariant-loop-other l = (d : SurfaceId) → is_reached l.met d ≡ (is_reached l.initial.met d || list_any (rises_to d) (take l.other-index l.risen))
