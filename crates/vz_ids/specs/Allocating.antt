-- Allocation of local surface ids.
use Rattle.std.specs.Prelude.{ℕ, Bool, not, ◌||◌, ◌==◌, nat_lt, if◌then◌else◌}
use Rattle.vz_ids.specs.declared.EmbedToken.{EmbedToken}
use Rattle.vz_ids.specs.declared.LocalSurfaceId.{LocalSurfaceId}

-- the first id with this embed token
abbrev pub first_id : EmbedToken → LocalSurfaceId
first_id token = record { parent = 1; child = 1; token = token }

-- the id with another parent number
abbrev pub with_parent : ℕ → LocalSurfaceId → LocalSurfaceId
with_parent n id = record { parent = n; child = id.child; token = id.token }

-- the id with another child number
abbrev pub with_child : ℕ → LocalSurfaceId → LocalSurfaceId
with_child n id = record { parent = id.parent; child = n; token = id.token }

-- a child adopts an id from its embedder: the token is another, or the parent number is greater
abbrev pub adopts : LocalSurfaceId → LocalSurfaceId → Bool
adopts last from = not (from.token.0 == last.token.0) || nat_lt last.parent from.parent

-- the child's last id after it adopts one: it keeps its own child number
abbrev pub adopted : LocalSurfaceId → LocalSurfaceId → LocalSurfaceId
adopted last from =
    if adopts last from then record { parent = from.parent; child = last.child; token = from.token } else last
