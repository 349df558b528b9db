use Rattle.std.proofs.Common.{take}
use Rattle.vz_scene.specs.Groups.{HasGroups}
use Rattle.vz_scene.proofs.active_frames.groups_of.Given as goal

-- the frames so far are in their groups
abbrev pub invariant-loop-submitted : goal.invariant-loop-submitted
invariant-loop-submitted l = HasGroups l.groups (take l.submitted-index l.active)
