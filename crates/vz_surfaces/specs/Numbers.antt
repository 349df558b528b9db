-- The existing surfaces of each client, in the order of creation.
use Rattle.std.specs.Prelude.{◌≡◌, ℕ, ◌<◌, Bool, not, ◌&&◌, ◌==◌, nat_eq, nat_lt, vec_len, vec_capacity, false, Option, List, [], ◌∷◌, map, filter}
use Rattle.std.specs.Option.{option_map_or}
use Rattle.std.specs.List.{Contains}
use Rattle.std.specs.Map.{lookup}
use Rattle.vz_rules.specs.World.{Surface}
use Rattle.vz_surfaces.specs.declared.standing.Numbered.{Numbered}
use Rattle.vz_surfaces.specs.declared.standing.Row.{Row}
use Rattle.vz_surfaces.specs.declared.standing.Standing.{Standing}
use Rattle.vz_surfaces.specs.Stored.{Stored}

-- the list of a client, if it has one
abbrev pub list_in : Standing → ℕ → Option Row
list_in s c = lookup (nat_eq c) s.lists.entries

-- the surfaces of a client
abbrev pub list_at : Standing → ℕ → List Numbered
list_at s c = option_map_or (λ (r : Row). r.all.items) (list_in s c) []

-- there is room for one more surface in a client's list
abbrev pub has_room : Standing → ℕ → Bool
has_room s c = option_map_or (λ (r : Row). nat_lt (vec_len r.all) (vec_capacity r.all)) (list_in s c) false

-- each surface has a greater number than those before it
unfoldable pub Rises : List Numbered → Type 0
Rises [] = Unit {0}
Rises (x ∷ xs) = ((y : Numbered) → Contains xs y → x.number < y.number) × Rises xs

-- a surface with its number
abbrev pub numbered_of : Surface → Numbered
numbered_of c = record { number = c.number; id = c.id }

-- the lists have the existing surfaces of each client, in the order of creation
pub record KeepsLists (s : Standing) (st : Stored) : Type 0 where
  pub lists : (c : ℕ) → list_at s c ≡ map numbered_of (filter (λ (x : Surface). (x.client == c) && not x.destroyed) st.surfaces)
  pub rise : (c : ℕ) → Rises (list_at s c)
