-- A round as single activations, and a collection as single destructions.
use Rattle.std.specs.Prelude.{true, ◌&&◌, List, [], ◌∷◌, map, if◌then◌else◌, IsTrue}
use Rattle.std.specs.List.{Contains}
use Rattle.vz_ids.specs.declared.SurfaceId.{SurfaceId}
use Rattle.vz_ids.specs.Ids.{same_surface, same_sub}
use Rattle.vz_rules.specs.World.{World, Submission, Surface, is_active, is_on, sub_of}
use Rattle.vz_rules.specs.Settle.{marked_by}
use Rattle.vz_rules.specs.Reach.{drop_on}
use Rattle.vz_rules.specs.declared.entry.State.TheVariants.{Active, Past}

-- a submission as another one becomes active: it becomes active if it is that one, is past if it
-- was active on that one's surface, and otherwise stays
abbrev pub as_one_rises : Submission → Submission → Submission
as_one_rises s t =
    if same_sub (sub_of t) (sub_of s) then record t { state = Active; was_active = true }
    else (if is_active t && is_on s.submitted.id t then record t { state = Past } else t)

-- one submission becomes active, and the earlier surfaces of its client are marked
unfoldable pub rising : Submission → World → World
rising s w = record w { subs = map (as_one_rises s) w.subs; surfaces = map (marked_by w.surfaces (s ∷ [])) w.surfaces }

-- these submissions become active, one after another
unfoldable pub all_rising : List Submission → World → World
all_rising [] w = w
all_rising (s ∷ ss) w = all_rising ss (rising s w)

-- a surface is destroyed if it has this id
abbrev pub as_one_goes : Surface → Surface → Surface
as_one_goes c d = if same_surface d.id c.id then record d { destroyed = true } else d

-- one surface is destroyed, and its waiting and its active submission are dropped
unfoldable pub going : Surface → World → World
going c w = record w { surfaces = map (as_one_goes c) w.surfaces; subs = map (drop_on (c ∷ [])) w.subs }

-- these surfaces are destroyed, one after another
unfoldable pub all_going : List Surface → World → World
all_going [] w = w
all_going (c ∷ cs) w = all_going cs (going c w)

-- the surface with this id is marked, if there is one
abbrev pub IsMarked : World → SurfaceId → Type 0
IsMarked w id = (s : Surface) → Contains w.surfaces s → IsTrue (same_surface s.id id) → IsTrue s.marked
