-- The unmet dependencies (lacks) of the blocked submissions.
use Rattle.std.specs.Prelude.{cond, zero, suc, ◌≡◌, ℕ, ◌+◌, ◌-◌, ◌≤◌, ◌<◌, Bool, true, false, ◌==◌, nat_eq, nat_lt, min, Option, Some, None, is_some, List, [], ◌∷◌, ◌++◌, length, filter, if◌then◌else◌, option_to_list, vec_capacity}
use Rattle.std.specs.Prelude.{◌⊎◌}
use Rattle.std.specs.List.{list_any}
use Rattle.std.specs.Option.{option_map}
use Rattle.std.specs.Map.{lookup}
use Rattle.indexmap.specs.IndexMap.{spare}
use Rattle.vz_ids.specs.declared.Sub.{Sub}
use Rattle.vz_ids.specs.declared.SurfaceId.{SurfaceId}
use Rattle.vz_deps.specs.declared.bunches.Bunch.{Bunch}
use Rattle.vz_deps.specs.declared.bunches.Lack.{Lack}
use Rattle.vz_deps.specs.declared.bunches.Seat.{Seat}
use Rattle.vz_deps.specs.declared.bunches.Bunches.{Bunches}
use Rattle.vz_deps.specs.declared.lacks.Count.{Count}
use Rattle.vz_deps.specs.declared.lacks.Told.{Told}
use Rattle.vz_deps.specs.declared.lacks.Told.TheVariants.{Active, Closed}
use Rattle.vz_deps.specs.declared.lacks.Lacks.{Lacks}
use Rattle.vz_deps.specs.Bunching.{same_lack, seat_in, bunch_of, Stands, room_in}
use Rattle.vz_deps.specs.Placing.{bunch_for}
use Rattle.vz_deps.specs.Tracking.{meets, is_of_sink}

-- the surface that a lack depends on
abbrev pub on_in : Lacks → Lack → Option SurfaceId
on_in l x = lookup (same_lack x) l.on.entries

-- how many dependencies a submission lacked at first and how many it lacks now
abbrev pub count_in : Lacks → ℕ → Option Count
count_in l o = lookup (nat_eq o) l.counts.entries

-- the bunches by sink, or those by group
abbrev pub bunches_for : Bool → Lacks → Bunches
bunches_for whole l = if whole then l.sinks else l.groups

-- what was reported meets a dependency: a surface became active, or a sink closed
abbrev pub met_by : Told → SurfaceId → Bool
met_by (Active id) d = meets id d
met_by (Closed sink) d = is_of_sink sink d

-- a closed sink was reported
abbrev pub is_of : Told → Bool
is_of (Active id) = false
is_of (Closed sink) = true

-- the bunch that has all dependencies that this can meet
abbrev pub bunch_told : Told → Bunch
bunch_told (Active id) = bunch_for false id
bunch_told (Closed sink) = record { sink = sink; token = record { 0 = 0 } }

-- all dependencies of the submission are met
abbrev pub is_done : Option Count → Bool
is_done None = false
is_done (Some c) = c.unmet == 0

-- the number is in the list
unfoldable pub is_in : ℕ → List ℕ → Bool
is_in o list = list_any (λ n. nat_eq o n) list

-- the counts of the submissions that still lack something
unfoldable pub unready : List (ℕ × Count) → List (ℕ × Count)
unready counts = filter (λ e. nat_lt 0 e.1.unmet) counts

-- the unmet ones among the first so many dependencies that a submission lacked when it was blocked
unfoldable pub lacks_of : (Lack → Option SurfaceId) → ℕ → ℕ → List SurfaceId
lacks_of on o zero = []
lacks_of on o (suc n) = lacks_of on o n ++ option_to_list (on (record { order = o; nth = n }))

-- how many dependencies a submission lacked when it was blocked
abbrev pub all_of : Option Count → ℕ
all_of None = 0
all_of (Some c) = c.all

-- the unmet dependencies of a submission
abbrev pub unmet_in : Lacks → ℕ → List SurfaceId
unmet_in l o = lacks_of (on_in l) o (all_of (count_in l o))

-- what always holds: each lack is in the bunches of its surface, the lacks of each submission are
-- counted, and the submissions that lack nothing any more are listed
pub record IsKept (l : Lacks) : Type 0 where
  pub stands : (w : Bool) → Stands (bunches_for w l)
  pub listed : (w : Bool) (x : Lack) → bunch_of (bunches_for w l) x ≡ option_map (bunch_for w) (on_in l x)
  pub within : (x : Lack) (d : SurfaceId) → on_in l x ≡ Some d → (c : Count) × (count_in l x.order ≡ Some c) × (x.nth < c.all)
  pub counted : (o : ℕ) (c : Count) → count_in l o ≡ Some c → c.unmet ≡ length (lacks_of (on_in l) o c.all)
  pub freed : (o : ℕ) → is_in o l.freed.items ≡ is_done (count_in l o)
  pub few : length l.freed.items + length (unready l.counts.entries) ≤ length l.counts.entries
  pub room : length l.counts.entries ≤ vec_capacity l.freed

-- for how many more lacks and submissions there is room
abbrev pub room_of : Lacks → ℕ
room_of l = min (spare l.on) (min (room_in l.groups) (min (room_in l.sinks) (min (spare l.counts) (vec_capacity l.freed - length l.counts.entries))))

-- two bunches have the same lacks on the same seats
pub record HasSameSeats (a b : Bunches) : Type 0 where
  pub seats : b.seats.entries ≡ a.seats.entries
  pub seated : b.seated.entries ≡ a.seated.entries
  pub sizes : b.sizes.entries ≡ a.sizes.entries

-- everything is the same except the room, which has not shrunk
pub record HasSame (a b : Lacks) : Type 0 where
  pub on : b.on.entries ≡ a.on.entries
  pub groups : HasSameSeats a.groups b.groups
  pub sinks : HasSameSeats a.sinks b.sinks
  pub counts : b.counts.entries ≡ a.counts.entries
  pub freed : b.freed.items ≡ a.freed.items
  pub places : vec_capacity a.freed ≤ vec_capacity b.freed

-- the count of a submission that still lacks all that it lacked at first
abbrev pub whole : ℕ → Count
whole n = record { all = n; unmet = n }

-- a submission's number, if it lacks nothing
unfoldable pub noted : ℕ → ℕ → List ℕ
noted o n = if n == 0 then o ∷ [] else []

-- the submission lacks one dependency less
abbrev pub IsLowered : ℕ → List (ℕ × Count) → List (ℕ × Count) → Type 0
IsLowered o old new = (length new ≡ length old) × ((c : Count) → lookup (nat_eq o) old ≡ Some c
    → (q : ℕ) → lookup (nat_eq q) new ≡ cond (nat_eq o q) (Some (record c { unmet = c.unmet - 1 })) (lookup (nat_eq q) old))

-- a lack stays, or it was met and is removed
abbrev pub IsCleared : (SurfaceId → Bool) → Option SurfaceId → Option SurfaceId → Type 0
IsCleared met old new = (new ≡ old) ⊎ ((d : SurfaceId) × (old ≡ Some d) × (met d ≡ true) × (new ≡ None))

-- some met lacks were removed, and nothing else changed
pub record Meets (met : SurfaceId → Bool) (old new : Lacks) : Type 0 where
  pub kept : IsKept new
  pub on : (x : Lack) → IsCleared met (on_in old x) (on_in new x)
  pub all : (o : ℕ) → option_map (λ (c : Count). c.all) (count_in new o) ≡ option_map (λ (c : Count). c.all) (count_in old o)
  pub seats : (w : Bool) (s : Seat) (x : Lack) → seat_in (bunches_for w new) s ≡ Some x → (j : ℕ) × (s.at ≤ j) × (seat_in (bunches_for w old) (record s { at = j }) ≡ Some x)
  pub room : room_of old ≤ room_of new

-- no lack is left that is met
abbrev pub IsRid : (SurfaceId → Bool) → Lacks → Type 0
IsRid met l = (x : Lack) (d : SurfaceId) → on_in l x ≡ Some d → met d ≡ false

-- the list is empty
abbrev pub is_nothing : List SurfaceId → Bool
is_nothing [] = true
is_nothing (d ∷ list) = false

-- exactly the blocked submissions have counts
abbrev pub HasCounts : Lacks → List (ℕ × Sub) → Type 0
HasCounts l subs = (o : ℕ) → is_some (count_in l o) ≡ is_some (lookup (nat_eq o) subs)
