-- What active frames name, and what their references show.
use Rattle.std.specs.Prelude.{◌&&◌, not, Bool, Option, Some, None, List, [], map, if◌then◌else◌}
use Rattle.std.specs.List.{list_any}
use Rattle.vz_ids.specs.declared.SurfaceId.{SurfaceId}
use Rattle.vz_ids.specs.declared.SurfaceRange.{SurfaceRange}
use Rattle.vz_ids.specs.Ids.{at_least}
use Rattle.vz_rules.specs.World.{World, FrameData, Submission, Surface, exists, is_active}
use Rattle.vz_rules.specs.Scene.{shown_frame}

-- the ends of a submission's references, if it is active and its surface exists
abbrev pub ends_of : World → Submission → List SurfaceId
ends_of w s =
    if is_active s && exists w s.submitted.id then map (λ (r : SurfaceRange). r.end) s.submitted.frame.metadata.references else []

-- the surface exists, and one of these ends is that surface or a newer one of its group
abbrev pub is_named_by : List SurfaceId → Surface → Bool
is_named_by ends c = not c.destroyed && list_any (λ i. at_least i c.id) ends

-- the surface that a range shows among these frames
abbrev pub shown_in : List FrameData → SurfaceRange → Option SurfaceId
shown_in active range = elim (shown_frame active range) [ Some i ↦ Some i.id | None ↦ None ]
