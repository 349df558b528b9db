-- Worked ids.
use Rattle.std.proofs.Common.{◌≡◌, ℕ, true, false, [], ◌∷◌, refl, Some, None, map}
use Rattle.vz_ids.specs.declared.LocalSurfaceId.{LocalSurfaceId}
use Rattle.vz_ids.specs.declared.SurfaceId.{SurfaceId}
use Rattle.vz_ids.specs.Ids.{is_valid, newer, is_good}
use Rattle.vz_ids.specs.Allocating.{adopts, adopted}

abbrev local : ℕ → ℕ → ℕ → LocalSurfaceId
local parent child token = record { parent = parent; child = child; token = record { 0 = token } }

-- a child at (3, 7) does not adopt (2, 1) of its token; it adopts (4, 1), and a lower number of another token
allocators : adopts (local 3 7 1) (local 2 1 1) ∷ adopts (local 3 7 1) (local 4 1 1) ∷ adopts (local 3 7 1) (local 2 1 5) ∷ []
    ≡ false ∷ true ∷ true ∷ []
allocators = refl

-- it keeps its own number
adopted_numbers : adopted (local 3 7 1) (local 2 1 1) ∷ adopted (local 3 7 1) (local 4 1 1) ∷ adopted (local 3 7 1) (local 2 1 5) ∷ []
    ≡ local 3 7 1 ∷ local 4 7 1 ∷ local 2 7 5 ∷ []
adopted_numbers = refl

-- newer asks for the token, for no smaller number and for a greater one
newer_ones : map (λ a. newer a (local 2 3 1)) (local 3 3 1 ∷ local 2 4 1 ∷ local 3 2 1 ∷ local 2 3 1 ∷ local 3 4 5 ∷ [])
    ≡ true ∷ true ∷ false ∷ false ∷ false ∷ []
newer_ones = refl

-- a valid id has no 0
valid_ones : map is_valid (local 1 1 1 ∷ local 0 1 1 ∷ local 1 0 1 ∷ local 1 1 0 ∷ []) ≡ true ∷ false ∷ false ∷ false ∷ []
valid_ones = refl

abbrev surface : ℕ → LocalSurfaceId → SurfaceId
surface k id = record { sink = record { client_id = k; sink_id = 1 }; local = id }

-- a range is bad only where its start is a newer surface of the end's group
good_ranges : map is_good (
    record { start = None; end = surface 1 (local 1 1 1) }
    ∷ record { start = Some (surface 1 (local 1 1 1)); end = surface 1 (local 1 1 1) }
    ∷ record { start = Some (surface 1 (local 1 2 1)); end = surface 1 (local 1 1 1) }
    ∷ record { start = Some (surface 1 (local 1 2 5)); end = surface 1 (local 1 1 1) }
    ∷ record { start = Some (surface 2 (local 1 2 1)); end = surface 1 (local 1 1 1) } ∷ []
    ) ≡ true ∷ true ∷ false ∷ true ∷ true ∷ []
good_ranges = refl
