use Rattle.std.proofs.Common.{◌≡◌, map, take}
use Rattle.vz_state.specs.Naming.{is_named_by}
use Rattle.vz_state.proofs.names.named_flags.Given as goal

-- the flags of the surfaces so far
abbrev pub invariant-loop-surface : goal.invariant-loop-surface
invariant-loop-surface l = l.flags.items ≡ map (is_named_by l.ends) (take l.surface-index l.surfaces)
