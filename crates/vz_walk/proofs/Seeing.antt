-- Frames that a store shows fit a message file.
use Rattle.std.proofs.Common.{◌≡◌, Some, subst, filter, Contains}
use Rattle.vz_ids.specs.declared.SurfaceId.{SurfaceId}
use Rattle.vz_ids.specs.declared.SurfaceRange.{SurfaceRange}
use Rattle.vz_ids.specs.Ids.{same_surface}
use Rattle.vz_rules.specs.World.{FrameData, Submission, is_active, active_frames}
use Rattle.vz_rules.specs.Scene.{shown_frame}
use Rattle.vz_rules.specs.Kept.{IsWhole, stands_in}
use Rattle.vz_rules.proofs.Members.{find_at, filter_at, contains_map}
use Rattle.vz_rules.proofs.Remembered.{shown_in}
use Rattle.vz_surfaces.specs.Stored.{Stored}
use Rattle.vz_surfaces.specs.Reading.{seen_frames, active_on}
use Rattle.vz_surfaces.specs.Keeping.{KeepsFrames}
use Rattle.vz_placement.specs.Limits.{FitsFile}

seen_fits : (st : Stored) (i : FrameData) → KeepsFrames st → Contains (seen_frames st) i → FitsFile i.frame
seen_fits st i keeps c =
    let a = filter_at (λ (j : FrameData). stands_in st.surfaces j.id) (active_frames st.subs) i c in
    let m = contains_map (λ (s : Submission). s.submitted) (filter is_active st.subs) i a.0 in
    let f = filter_at is_active st.subs m.0 m.1 in
    let whole = subst IsWhole m.2 (keeps m.0 f.0) in
    (_, whole.frame)

-- what a range shows
pub shown_fits : (st : Stored) (range : SurfaceRange) (i : FrameData) → KeepsFrames st → shown_frame (seen_frames st) range ≡ Some i
    → FitsFile i.frame
shown_fits st range i keeps e = seen_fits st i keeps (shown_in (seen_frames st) range i e)

-- what is on a surface
pub frame_fits : (st : Stored) (id : SurfaceId) (i : FrameData) → KeepsFrames st → active_on st id ≡ Some i → FitsFile i.frame
unfolding active_on
frame_fits st id i keeps e = seen_fits st i keeps (find_at (λ (j : FrameData). same_surface j.id id) (seen_frames st) i e).0
