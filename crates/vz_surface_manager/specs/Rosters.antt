-- Which submissions a walk draws, and how they are kept in memory.
use Rattle.std.specs.Prelude.{◌≡◌, ℕ, ◌+◌, Bool, IsFalse, Option, Some, None, List, [], map, filter, length, slice_get, take, drop}
use Rattle.std.specs.List.{Contains, list_any, filter_map, sum_by}
use Rattle.vz_geom.specs.declared.Size.{Size}
use Rattle.vz_ids.specs.declared.SurfaceId.{SurfaceId}
use Rattle.vz_ids.specs.declared.Sub.{Sub}
use Rattle.vz_ids.specs.Ids.{same_sub}
use Rattle.vz_rules.specs.Closure.{adding}
use Rattle.vz_rules.specs.World.{FrameData, has_sub}
use Rattle.vz_rules.specs.Walk.{Visit, Enters, goes_into}
use Rattle.vz_surfaces.specs.Stored.{Stored}
use Rattle.vz_surfaces.specs.Reading.{seen_frames}
use Rattle.vz_walk.specs.Scenes.{walked_in}
use Rattle.vz_surface_manager.specs.Flown.{Flown, subs_of}

-- a frame's submission, with the resources that it lists
abbrev pub flown_as : FrameData → Flown
flown_as i = (i.sub, i.frame.resources)

-- among the submissions of these frames, those that some visit goes into, in the order of the
-- frames
unfoldable pub flown_in : List FrameData → List Visit → List Flown
flown_in active visits = map flown_as (filter (λ (i : FrameData). list_any (goes_into i) visits) active)

-- the submissions that a walk over a store from a root goes into, on a display of this size, in
-- the order of acceptance
abbrev pub flown_from : Size → SurfaceId → Stored → List Flown
flown_from size root st = flown_in (seen_frames st) (walked_in size root st)

-- the submission that a visit goes into, if it goes into one
abbrev pub flown_at : Visit → Option Flown
flown_at (Enters depth i place) = Some (flown_as i)
flown_at _ = None

-- both are the same submission
abbrev pub same_flown : Flown → Flown → Bool
same_flown f g = same_sub f.0 g.0

-- the submissions that visits go into, each once, in the order in which the walk meets them
unfoldable pub met_in : List Visit → List Flown
met_in visits = adding same_flown [] (filter_map flown_at visits)

-- the number of all their listings
unfoldable pub listing_count : List Flown → ℕ
listing_count flown = sum_by (λ (f : Flown). length f.1) flown

-- the roster has exactly these submissions, with what they list, each once and in any order
pub record IsRosterOf (flown roster : List Flown) : Type 0 where
  pub all : (f : Flown) → Contains flown f → Contains roster f
  pub only : (f : Flown) → Contains roster f → Contains flown f
  pub many : length roster ≡ length flown
  pub names : (sub : Sub) → has_sub (subs_of roster) sub ≡ has_sub (subs_of flown) sub
  pub before : (k : ℕ) (f : Flown) → slice_get roster k ≡ Some f → IsFalse (has_sub (subs_of (take k roster)) f.0)
  pub behind : (k : ℕ) (f : Flown) → slice_get roster k ≡ Some f → IsFalse (has_sub (subs_of (drop (k + 1) roster)) f.0)
