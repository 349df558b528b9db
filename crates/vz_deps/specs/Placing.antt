-- Each lack in its two bunches.
use Rattle.std.specs.Prelude.{◌≡◌, Bool, true, false, List, if◌then◌else◌}
use Rattle.std.specs.Option.{option_map}
use Rattle.std.specs.Map.{lookup}
use Rattle.vz_ids.specs.declared.SurfaceId.{SurfaceId}
use Rattle.vz_deps.specs.declared.bunches.Bunch.{Bunch}
use Rattle.vz_deps.specs.declared.bunches.Lack.{Lack}
use Rattle.vz_deps.specs.declared.bunches.Bunches.{Bunches}
use Rattle.vz_deps.specs.Bunching.{same_lack, bunch_of, Stands}

-- the bunch of a surface, by sink or by group
abbrev pub bunch_for : Bool → SurfaceId → Bunch
bunch_for whole d = record { sink = d.sink; token = record d.local.token { 0 = if whole then 0 else d.local.token.0 } }

-- each lack is in the bunch of its surface, and no other lack is in a bunch
abbrev pub IsListed : Bool → List (Lack × SurfaceId) → Bunches → Type 0
IsListed whole on b = (x : Lack) → bunch_of b x ≡ option_map (bunch_for whole) (lookup (same_lack x) on)

-- each lack is in the bunch of its group and in that of its sink
pub record IsPlaced (on : List (Lack × SurfaceId)) (groups sinks : Bunches) : Type 0 where
  pub groups_stand : Stands groups
  pub sinks_stand : Stands sinks
  pub in_groups : IsListed false on groups
  pub in_sinks : IsListed true on sinks
