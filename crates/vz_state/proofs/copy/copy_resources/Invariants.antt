use Rattle.std.proofs.Common.{◌≡◌, take}
use Rattle.vz_state.proofs.copy.copy_resources.Given as goal

-- those so far are copied
abbrev pub invariant-loop-resource : goal.invariant-loop-resource
invariant-loop-resource l = l.copies.items ≡ take l.resource-index l.resources
