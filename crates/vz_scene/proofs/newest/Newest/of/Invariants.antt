use Rattle.std.proofs.Common.{◌≡◌, take}
use Rattle.vz_scene.proofs.newest.Newest.of.Given as goal

-- those so far are in it
abbrev pub invariant-loop-id : goal.invariant-loop-id
invariant-loop-id l = l.newest ≡ take l.id-index l.ids
