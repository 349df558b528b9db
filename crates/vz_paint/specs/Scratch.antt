-- The memory of the groups that painting threads have open.
use Rattle.std.specs.Prelude.{ℕ, ◌+◌, ◌*◌, max, nat_abs, List, [], ◌∷◌, length}
use Rattle.vz_geom.specs.Rectangle.{Rectangle}
use Rattle.vz_paint.specs.declared.brush.TheConstants.{AT_ONCE}
use Rattle.vz_paint.specs.declared.brush.Brush.{Brush}
use Rattle.vz_paint.specs.declared.group.OpenGroup.{OpenGroup}

-- the bytes of the pixels of groups
unfoldable pub group_bytes : List OpenGroup → ℕ
group_bytes [] = 0
group_bytes (g ∷ gs) = 4 * length g.pixels.items + group_bytes gs

-- the bytes of the groups of all brushes
unfoldable pub scratch_bytes : List Brush → ℕ
scratch_bytes [] = 0
scratch_bytes (b ∷ bs) = group_bytes b.groups.items + scratch_bytes bs

-- the most bytes of one brush for an area: those of as many pixels as are drawn at once, or of one
-- row more than there are groups, if that is more
abbrev pub most_bytes : Rectangle → ℕ → ℕ
most_bytes area groups = 4 * max AT_ONCE (nat_abs area.w * (groups + 1))
