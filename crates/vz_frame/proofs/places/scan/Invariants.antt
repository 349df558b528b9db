use Rattle.std.proofs.Common.{◌≡◌, map, take, None}
use Rattle.vz_frame.specs.Places.{first_place}
use Rattle.vz_frame.proofs.places.scan.Given as goal

-- none so far has the id
abbrev pub invariant-loop-place : goal.invariant-loop-place
invariant-loop-place g l = first_place l.id (take l.place (map g.T.HasId.id_of l.items)) ≡ None
