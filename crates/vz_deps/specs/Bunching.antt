-- Unmet dependencies (lacks), in bunches by group or by sink.
use Rattle.std.specs.Prelude.{◌≡◌, ℕ, Bool, ◌&&◌, ◌==◌, nat_lt, min, Option, Some, None, is_some, List}
use Rattle.std.specs.Option.{option_map}
use Rattle.std.specs.Map.{lookup}
use Rattle.indexmap.specs.IndexMap.{spare}
use Rattle.vz_ids.specs.Ids.{same_sink}
use Rattle.vz_deps.specs.declared.bunches.Bunch.{Bunch}
use Rattle.vz_deps.specs.declared.bunches.Lack.{Lack}
use Rattle.vz_deps.specs.declared.bunches.Seat.{Seat}
use Rattle.vz_deps.specs.declared.bunches.Bunches.{Bunches}

-- two lacks have the same submission number and the same place among its dependencies
abbrev pub same_lack : Lack → Lack → Bool
same_lack a b = (a.order == b.order) && (a.nth == b.nth)

-- two bunches have the same sink and the same token
abbrev pub same_bunch : Bunch → Bunch → Bool
same_bunch a b = same_sink a.sink b.sink && (a.token.0 == b.token.0)

-- two seats have the same bunch and the same place in it
abbrev pub same_seat : Seat → Seat → Bool
same_seat a b = same_bunch a.bunch b.bunch && (a.at == b.at)

-- the size of a bunch, in a list of sizes; 0 if it is not there
abbrev pub sized : List (Bunch × ℕ) → Bunch → ℕ
sized sizes k = elim (lookup (same_bunch k) sizes) [ Some n ↦ n | None ↦ 0 ]

-- how many lacks are in a bunch
abbrev pub size_in : Bunches → Bunch → ℕ
size_in b k = sized b.sizes.entries k

-- the lack on a seat, if there is one
abbrev pub seat_in : Bunches → Seat → Option Lack
seat_in b s = lookup (same_seat s) b.seats.entries

-- the seat of a lack
abbrev pub seat_of : Bunches → Lack → Option Seat
seat_of b x = lookup (same_lack x) b.seated.entries

-- the bunch that a lack is in
abbrev pub bunch_of : Bunches → Lack → Option Bunch
bunch_of b x = option_map (λ s. s.bunch) (seat_of b x)

-- for how many more lacks there is room
abbrev pub room_in : Bunches → ℕ
room_in b = min (spare b.seats) (min (spare b.seated) (spare b.sizes))

-- a lack is on a seat exactly if that is its seat, and in each bunch exactly the seats below its
-- size are taken
pub record IsSeated (seats : Seat → Option Lack) (seated : Lack → Option Seat) (sizes : Bunch → ℕ) : Type 0 where
  pub has : (s : Seat) (x : Lack) → seats s ≡ Some x → seated x ≡ Some s
  pub sits : (x : Lack) (s : Seat) → seated x ≡ Some s → seats s ≡ Some x
  pub full : (s : Seat) → is_some (seats s) ≡ nat_lt s.at (sizes s.bunch)

-- what always holds of bunches
abbrev pub Stands : Bunches → Type 0
Stands b = IsSeated (seat_in b) (seat_of b) (size_in b)
