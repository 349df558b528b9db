-- The temporary surfaces by their names, and which of them expire.
use Rattle.std.specs.Prelude.{◌≡◌, ℕ, ◌≤◌, ◌<◌, ◌⊎◌, Bool, not, true, false, if◌then◌else◌, IsTrue, ◌==◌, ◌&&◌, nat_eq, nat_le, nat_lt, min, Option, Some, None, is_some, List, map, filter}
use Rattle.std.specs.List.{list_any, AllByRecursion}
use Rattle.std.specs.Option.{option_map}
use Rattle.std.specs.Map.{lookup}
use Rattle.indexmap.specs.IndexMap.{IndexMap, spare}
use Rattle.vz_ids.specs.declared.FrameSinkId.{FrameSinkId}
use Rattle.vz_ids.specs.declared.SurfaceId.{SurfaceId}
use Rattle.vz_ids.specs.declared.SurfaceRange.{SurfaceRange}
use Rattle.vz_ids.specs.Ids.{same_sink, group_of}
use Rattle.vz_ids.specs.declared.GroupKey.{GroupKey}
use Rattle.vz_frame.specs.Frame.{has_repeat}
use Rattle.vz_rules.specs.Reach.{names}
use Rattle.vz_refs.specs.declared.sets.Place.{Place}
use Rattle.vz_refs.specs.declared.seats.Name.{Name}
use Rattle.vz_refs.specs.declared.seats.Kept.{Kept}
use Rattle.vz_refs.specs.declared.seats.Seats.{Seats}
use Rattle.vz_refs.specs.declared.temporaries.Named.{Named}
use Rattle.vz_refs.specs.declared.temporaries.Numbers.{Numbers}
use Rattle.vz_refs.specs.Referring.{Temporary}
use Rattle.vz_refs.specs.Indexing.{same_key, same_place, or_zero}
use Rattle.vz_refs.specs.Seated.{IsSeated}

-- both names have the same tick and the same number
abbrev pub same_name : Name → Name → Bool
same_name a b = (a.until == b.until) && (a.number == b.number)

-- the place of a temporary surface in its group
abbrev pub seat_of : Kept → Place
seat_of k = record { group = group_of k.id; at = k.at }

-- the temporary surface with this name
abbrev pub kept_in : Seats → Name → Option Kept
kept_in s n = lookup (same_name n) s.kept.entries

-- the surface id with this name
abbrev pub surface_in : Seats → Name → Option SurfaceId
surface_in s n = option_map (λ k. k.id) (kept_in s n)

-- the name of the temporary surface at a place
abbrev pub name_in : Seats → Place → Option Name
name_in s p = lookup (same_place p) s.names.entries

-- how many temporary surfaces are in a group
abbrev pub size_in : Seats → GroupKey → ℕ
size_in s g = or_zero (lookup (same_key g) s.sizes.entries)

-- for how many more temporary surfaces there is room
abbrev pub room_in : Seats → ℕ
room_in s = min (spare s.kept) (min (spare s.names) (spare s.sizes))

-- the temporary surfaces of each group are at its first places
abbrev pub Stands : Seats → Type 0
Stands s = IsSeated seat_of (kept_in s) (name_in s) (size_in s)

-- a surface keeps its name, or it was to expire and is removed
abbrev pub IsEnded : Bool → Option SurfaceId → Option SurfaceId → Type 0
IsEnded over old new = (new ≡ old) ⊎ (IsTrue over × (new ≡ None))

-- some surfaces that were to expire are removed, and nothing else changes
pub record Ends (over : Name → SurfaceId → Bool) (old new : Seats) : Type 0 where
  pub stands : Stands new
  pub surfaces : (n : Name) (d : SurfaceId) → surface_in old n ≡ Some d → IsEnded (over n d) (Some d) (surface_in new n)
  pub no_more : (n : Name) → surface_in old n ≡ None → surface_in new n ≡ None
  pub names : (p : Place) (n : Name) → name_in new p ≡ Some n → (j : ℕ) × (p.at ≤ j) × (name_in old (record p { at = j }) ≡ Some n)
  pub room : room_in old ≤ room_in new

-- no surface is left that is to expire
abbrev pub IsRid : (Name → SurfaceId → Bool) → Seats → Type 0
IsRid over s = (n : Name) (d : SurfaceId) → surface_in s n ≡ Some d → over n d ≡ false

-- a range names the surface
abbrev pub named_by : SurfaceRange → Name → SurfaceId → Bool
named_by range n d = names d range

-- the tick is the last one of a name, or a later one
abbrev pub over_at : ℕ → Name → SurfaceId → Bool
over_at tick n d = nat_le n.until tick

-- the name has this tick, and one of the numbers from the first up to the next one
abbrev pub is_among : ℕ → ℕ → ℕ → Name → SurfaceId → Bool
is_among until first next n d = (n.until == until) && (nat_le first n.number && nat_lt n.number next)

-- the surface is of this sink
abbrev pub of_sink : FrameSinkId → Name → SurfaceId → Bool
of_sink sink n d = same_sink d.sink sink

-- the temporary surface, unless it is of this sink
abbrev pub not_of : FrameSinkId → Option Kept → Option Kept
not_of sink None = None
not_of sink (Some k) = if not (same_sink k.id.sink sink) then Some k else None

-- a surface that was made temporary, as contracts see it
abbrev pub temporary_of : Named → Temporary
temporary_of e = record { id = e.id; until = e.name.until }

-- among all surfaces that were ever made temporary, those that still are
unfoldable pub lasting_in : (Name → Option SurfaceId) → List Named → List Temporary
lasting_in surface ever = map temporary_of (filter (λ e. is_some (surface e.name)) ever)

-- the temporary surfaces of a map, as contracts see them, in its order
abbrev pub all_in : List (Name × Kept) → List Temporary
all_in entries = map (λ e. record { id = e.1.id; until = e.0.until }) entries

-- the numbers of the surfaces that expire at this tick
abbrev pub numbers_in : {S : Type 0} → IndexMap ℕ Numbers S → ℕ → Option Numbers
numbers_in numbers until = lookup (nat_eq until) numbers.entries

-- these numbers, or if there are none, an empty range after all numbers that were given
abbrev pub numbers_or : ℕ → Option Numbers → Numbers
numbers_or given (Some all) = all
numbers_or given None = record { first = given; next = given }

-- the bound of the numbers in names: each number is below it
abbrev pub LAST_NUMBER : ℕ
LAST_NUMBER = 18446744073709551615

-- a surface that was made temporary has its name still, or is removed, and its number was given
pub record IsGiven (surface : Name → Option SurfaceId) (numbers : ℕ → Option Numbers) (given : ℕ) (e : Named) : Type 0 where
  pub right : (surface e.name ≡ None) ⊎ (surface e.name ≡ Some e.id)
  pub fresh : e.name.number < (numbers_or given (numbers e.name.until)).next

-- each temporary surface has one of the numbers of its tick
abbrev pub AreWithin : (Name → Option SurfaceId) → (ℕ → Option Numbers) → Type 0
AreWithin surface numbers = (n : Name) → is_some (surface n) ≡ true → (all : Numbers) × (numbers n.until ≡ Some all) × (all.first ≤ n.number) × (n.number < all.next)

-- each temporary surface was given its name, its number is one of those of its tick, and no name
-- was given twice
pub record IsKept (surface : Name → Option SurfaceId) (numbers : ℕ → Option Numbers) (given : ℕ) (ever : List Named) : Type 0 where
  pub each : AllByRecursion (IsGiven surface numbers given) ever
  pub known : (n : Name) → is_some (surface n) ≡ true → IsTrue (list_any (same_name n) (map (λ e. e.name) ever))
  pub once : has_repeat same_name (map (λ e. e.name) ever) ≡ false
  pub within : AreWithin surface numbers
  pub few : (until : ℕ) (all : Numbers) → numbers until ≡ Some all → (all.first ≤ all.next) × (all.next ≤ given)

-- the temporary surfaces, in the order in which they became temporary, with reserved room
pub record Held : Type 0 where
  pub list : List Temporary
  pub spare : ℕ
