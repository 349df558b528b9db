-- A map of ids as a list of pairs.
use Rattle.std.specs.Prelude.{◌≡◌, ℕ, ◌<◌, ◌≤◌, List, [], ◌∷◌, length, if◌then◌else◌, ◌==◌, slice_index_or, Some, None, Option}

-- pairs of an id and its place
abbrev pub Pairs : Type 0
Pairs = List (ℕ × ℕ)

-- the place of the first pair that has the id, if there is one
abbrev pub get : Pairs → ℕ → Option ℕ
get [] id = None
get ((n, place) ∷ rest) id = if n == id then Some place else get rest id

-- the id of the pair at place i
abbrev pub id_at : Pairs → ℕ → ℕ
id_at l i = let pair = slice_index_or l i (0, 0) in pair.0

-- the ids rise, so no id occurs twice
abbrev pub IsStrictlySorted : Pairs → Type 0
IsStrictlySorted l = (i j : ℕ) → i < j → j < length l → id_at l i < id_at l j

-- the pair at place i has the id
pub record IsAt (l : Pairs) (id i : ℕ) : Type 0 where
  pub in_range : i < length l
  pub has_id : id_at l i ≡ id

-- the id belongs at place i: the ids before it are smaller, and those from it on are greater
pub record IsGapFor (l : Pairs) (id i : ℕ) : Type 0 where
  pub in_range : i ≤ length l
  pub smaller_before : (j : ℕ) → j < i → id_at l j < id
  pub greater_after : (j : ℕ) → i ≤ j → j < length l → id < id_at l j

-- the new map has the place for the id, and for every other id what the old one has
abbrev pub GetsAfterSet : Pairs → Pairs → ℕ → ℕ → Type 0
GetsAfterSet old new id place = (q : ℕ) → get new q ≡ (if id == q then Some place else get old q)
