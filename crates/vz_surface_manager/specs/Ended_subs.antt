-- Submissions that end.
use Rattle.std.specs.Prelude.{ℕ, ◌+◌, Option, Some, None, List, [], length}
use Rattle.vz_frame.specs.declared.frame.Listing.{Listing}
use Rattle.vz_surfaces.specs.declared.held.Held.{Held}
use Rattle.vz_returns.specs.declared.ended.Ended.{Ended}
use Rattle.vz_surface_manager.specs.Flown.{Flown, flies}

-- the listings of a submission, or none if there is no submission
abbrev pub listings_of : Option Held → List Listing
listings_of None = []
listings_of (Some h) = h.frame.resources

-- a submission that ends, and whether it is in the drawn frame
abbrev pub ended_in : Option (List Flown) → Option Held → Option Ended
ended_in flight None = None
ended_in flight (Some h) = Some (record { sub = h.sub; in_flight = flies flight h.sub })

-- how many places a waiting submission needs, if there is one
abbrev pub wanted_by : Option Held → ℕ
wanted_by None = 0
wanted_by (Some h) = length h.frame.metadata.references + 1
