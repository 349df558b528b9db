-- When the set references and the temporary surfaces represent those of the machine's state.
use Rattle.std.specs.Prelude.{◌≡◌, Option, Some, None, List, []}
use Rattle.vz_ids.specs.declared.SurfaceId.{SurfaceId}
use Rattle.vz_ids.specs.declared.SurfaceRange.{SurfaceRange}
use Rattle.vz_rules.specs.World.{World, FrameData, active_frames, frame_on}
use Rattle.vz_rules.specs.Reach.{has_id, roots}
use Rattle.vz_refs.specs.Referring.{Ranged, Temporary, ranges_of, starts}

-- the references in a frame's metadata, if there is a frame
abbrev pub references_of : Option FrameData → List SurfaceRange
references_of None = []
references_of (Some i) = i.frame.metadata.references

-- each surface has the references of its active frame
abbrev pub AreReferences : World → List Ranged → Type 0
AreReferences w sets = (id : SurfaceId) → ranges_of sets id ≡ references_of (frame_on id (active_frames w.subs))

-- reaching starts at the machine's roots
abbrev pub AreRoots : World → Option SurfaceId → List Temporary → Type 0
AreRoots w root kept = (id : SurfaceId) → has_id (starts root kept) id ≡ has_id (roots w) id
