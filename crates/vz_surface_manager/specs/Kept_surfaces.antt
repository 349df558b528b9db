-- Which surfaces stay although nothing references them, and when the reference part represents the
-- machine's state.
use Rattle.std.specs.Prelude.{◌≡◌, ◌+◌, Bool, false, not, ◌&&◌, ◌||◌, ◌⊎◌, nat_lt, IsTrue, Option, Some, None, List, if◌then◌else◌}
use Rattle.std.specs.List.{Contains, list_any}
use Rattle.vz_base.specs.declared.limits.TheConstants.{TEMPORARY_TICKS}
use Rattle.vz_ids.specs.declared.SurfaceId.{SurfaceId}
use Rattle.vz_ids.specs.Ids.{same_surface}
use Rattle.vz_rules.specs.World.{World, Surface, Submission, FrameData, exists, is_waiting, is_active, active_frames}
use Rattle.vz_rules.specs.Reach.{names, is_named_now, has_closed}
use Rattle.vz_refs.specs.Referring.{Temporary}
use Rattle.vz_refs.specs.Referring.{Referring, Ranged, is_set, ranges_of}
use Rattle.vz_refs.specs.Meaning.{AreReferences}

-- a surface is temporary, after naming: it exists, no reference has named it, its client has not
-- closed, and fewer than 16 begin-frames have passed since its creation
unfoldable pub lasts : World → Surface → Bool
lasts w c = not c.destroyed && not (c.named || is_named_now w c.id) && not (has_closed w c.client) && nat_lt w.tick (c.born + TEMPORARY_TICKS)

-- the surface is this one, if there is one
abbrev pub is_one : Option SurfaceId → SurfaceId → Bool
is_one None id = false
is_one (Some new) id = same_surface new id

-- the surface is in the list of temporary ones
abbrev pub has_kept : List Temporary → SurfaceId → Bool
has_kept kept id = list_any (λ t. same_surface t.id id) kept

-- a submission references a surface
abbrev pub names_it : SurfaceId → Submission → Bool
names_it id s = list_any (names id) s.submitted.frame.metadata.references

-- each surface that an active submission names is named, if that submission may be replaced by one
-- that waits on its surface; a new or a destroyed surface is an exception
abbrev pub AreNoted : World → Option SurfaceId → Type 0
AreNoted w but =
    (s t : Submission) (c : Surface) → Contains w.subs s → Contains w.subs t → Contains w.surfaces c → IsTrue (is_active s) → IsTrue (is_waiting t)
    → IsTrue (same_surface s.submitted.id t.submitted.id) → IsTrue (names_it c.id s) → IsTrue c.named ⊎ IsTrue c.destroyed ⊎ IsTrue (is_one but c.id)

-- each surface is set at most once
abbrev pub AreOwn : List Ranged → Type 0
AreOwn sets = (s : Ranged) → Contains sets s → ranges_of sets s.id ≡ s.ranges

-- a temporary surface was created, and this is the tick until which it lasts
abbrev pub IsKeptFor : List Surface → Temporary → Type 0
IsKeptFor surfaces t = (c : Surface) × Contains surfaces c × (c.id ≡ t.id) × (t.until ≡ c.born + TEMPORARY_TICKS)

-- the references of active frames are set, and the temporary surfaces are those that last, except
-- for a new one that is yet to be kept
pub record AreKept (w : World) (but : Option SurfaceId) (r : Referring) : Type 0 where
  pub sets : AreReferences w r.sets
  pub own : AreOwn r.sets
  pub all_set : (i : FrameData) → Contains (active_frames w.subs) i → IsTrue (is_set r.sets i.id)
  pub lasting : (c : Surface) → Contains w.surfaces c → is_one but c.id ≡ false → has_kept r.temporary c.id ≡ lasts w c
  pub fresh : (c : Surface) → Contains w.surfaces c → IsTrue (is_one but c.id) → has_kept r.temporary c.id ≡ false
  pub known : (t : Temporary) → Contains r.temporary t → IsKeptFor w.surfaces t
  pub noted : AreNoted w but

-- a surface, if it exists
abbrev pub if_exists : World → Option SurfaceId → Option SurfaceId
if_exists w None = None
if_exists w (Some id) = if exists w id then Some id else None

-- the root, if it exists
abbrev pub root_of : World → Option SurfaceId
root_of w = if_exists w w.root
