use Rattle.std.proofs.Common.{◌≡◌, drop}
use Rattle.std.specs.List.{list_any}
use Rattle.vz_ids.specs.Ids.{same_surface}
use Rattle.vz_refs.proofs.surfaces.has_surface.Given as goal

-- the answer is that of what is left
abbrev pub invariant-loop-other : goal.invariant-loop-other
invariant-loop-other l = list_any (same_surface l.fn.surface) l.surfaces ≡ list_any (same_surface l.fn.surface) (drop l.other-index l.surfaces)
