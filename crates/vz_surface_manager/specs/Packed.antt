-- Submissions, and the listings of all of them in one list.
use Rattle.std.specs.Prelude.{ℕ, ◌≤◌, List, [], ◌∷◌, map, take, drop}
use Rattle.vz_ids.specs.declared.Sub.{Sub}
use Rattle.vz_frame.specs.declared.frame.Listing.{Listing}
use Rattle.vz_surface_manager.specs.declared.roster.Part.{Part}
use Rattle.vz_surface_manager.specs.Flown.{Flown}

-- a submission with what its part of the list has
abbrev pub unpacked_one : List Listing → Sub × Part → Flown
unpacked_one all e = (e.0, drop e.1.from (take e.1.to all))

-- the submissions, each with what its part of the list has
abbrev pub unpacked : List Listing → List (Sub × Part) → List Flown
unpacked all es = map (unpacked_one all) es

-- each part is within a list of this length
abbrev pub AreWithin : ℕ → List (Sub × Part) → Type 0
AreWithin n [] = Unit {0}
AreWithin n (e ∷ es) = (e.1.from ≤ e.1.to) × (e.1.to ≤ n) × AreWithin n es
