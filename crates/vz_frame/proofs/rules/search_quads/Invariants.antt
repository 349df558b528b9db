use Rattle.std.proofs.Common.{◌≡◌, take}
use Rattle.vz_frame.specs.Checking.{in_quads}
use Rattle.vz_frame.proofs.rules.search_quads.Given as goal

-- what is found in the quads so far
abbrev pub invariant-loop-quad : goal.invariant-loop-quad
invariant-loop-quad l = l.found ≡ in_quads (take l.place l.by_id) l.listed (take l.quad-index l.quads)
