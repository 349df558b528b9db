-- What can be read from a store.
use Rattle.std.specs.Prelude.{ℕ, zero, suc, ◌+◌, Bool, not, ◌&&◌, ◌==◌, Option, Some, None, List, [], ◌++◌, map, filter, find, count_by}
use Rattle.std.specs.Option.{option_map}
use Rattle.std.specs.List.{list_any}
use Rattle.vz_geom.specs.declared.Size.{Size}
use Rattle.vz_ids.specs.declared.LocalSurfaceId.{LocalSurfaceId}
use Rattle.vz_ids.specs.declared.SurfaceId.{SurfaceId}
use Rattle.vz_ids.specs.declared.SurfaceRange.{SurfaceRange}
use Rattle.vz_ids.specs.Ids.{same_surface, at_least}
use Rattle.vz_rules.specs.World.{FrameData, Surface, Submission, active_frames, frame_on, is_waiting, is_on}
use Rattle.vz_rules.specs.Scene.{shown_frame, id_of_frame}
use Rattle.vz_rules.specs.Kept.{last_in, stands_in}
use Rattle.vz_surfaces.specs.declared.held.Held.{Held}
use Rattle.vz_surfaces.specs.Stored.{Stored}

-- the surface with this id exists
unfoldable pub stands : Stored → SurfaceId → Bool
stands st id = stands_in st.surfaces id

-- the surface with this id, if it exists
abbrev pub standing : SurfaceId → List Surface → Option Surface
standing id surfaces = find (λ s. same_surface s.id id && not s.destroyed) surfaces

-- how many surfaces exist
unfoldable pub existing_count : Stored → ℕ
existing_count st = count_by (λ (s : Surface). not s.destroyed) st.surfaces

-- the surface exists and is marked
unfoldable pub has_mark : Stored → SurfaceId → Bool
has_mark st id = elim (standing id st.surfaces) [ Some c ↦ c.marked | None ↦ Bool.false ]

-- the marked surfaces of a client that exist, in the order of creation
unfoldable pub marked_of : ℕ → Stored → List SurfaceId
marked_of c st = map (λ s. s.id) (filter (λ (s : Surface). (s.client == c) && s.marked && not s.destroyed) st.surfaces)

-- the same for the first so many clients, client by client
unfoldable pub marked_to : ℕ → Stored → List SurfaceId
marked_to zero st = []
marked_to (suc n) st = marked_to n st ++ marked_of (n + 1) st

-- the local id and the size of the last surface that a client created
unfoldable pub last_of : ℕ → Stored → Option (LocalSurfaceId × Size)
last_of c st = option_map (λ (s : Surface). (s.id.local, s.size)) (last_in st.surfaces c)

-- the active frames on existing surfaces, in the order of acceptance
abbrev pub seen_frames : Stored → List FrameData
seen_frames st = filter (λ i. stands_in st.surfaces i.id) (active_frames st.subs)

-- the active frame on a surface, if the surface exists
unfoldable pub active_on : Stored → SurfaceId → Option FrameData
active_on st id = frame_on id (seen_frames st)

-- a frame, as a store has it
abbrev pub held_of : FrameData → Held
held_of i = record { sub = i.sub; index = i.index; frame = i.frame; blocks = i.blocks }

-- the waiting frame on a surface, if the surface exists
unfoldable pub waiting_at : Stored → SurfaceId → Option FrameData
waiting_at st id =
    elim (standing id st.surfaces) [
      | Some c ↦ option_map (λ (s : Submission). s.submitted) (find (λ s. is_waiting s && is_on id s) st.subs)
      | None ↦ None
    ]

-- the frame that a store has on a surface, with that surface's id
abbrev pub frame_at : SurfaceId → Held → FrameData
frame_at id h = record { id = id; sub = h.sub; index = h.index; frame = h.frame; blocks = h.blocks }

-- the surface that a range shows, among those that exist and have an active frame
unfoldable pub shown_in : Stored → SurfaceRange → Option SurfaceId
shown_in st range = id_of_frame (shown_frame (seen_frames st) range)

-- some submission on this surface, or on a newer one of its group, was ever active
unfoldable pub was_reached : Stored → SurfaceId → Bool
was_reached st d = list_any (λ s. s.was_active && at_least s.submitted.id d) st.subs
