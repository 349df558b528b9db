use Rattle.std.proofs.Common.{◌≡◌, ◌-◌, ◌≤◌, ◌++◌, pos, map}
use Rattle.vz_geom.specs.Rectangle.{row_points}
use Rattle.vz_plain.specs.Shown.{colour_of}
use Rattle.vz_plain.proofs.pictures.row.Given as goal

-- with the columns from x on it is the whole row
abbrev pub invariant-loop-x : goal.invariant-loop-x
invariant-loop-x l =
    (l.x ≤ l.w)
    × (l.into.items ++ map (colour_of l.active l.root) (row_points (l.w - l.x) (pos l.x) (pos l.y))
    ≡ l.fn.into.items ++ map (colour_of l.active l.root) (row_points l.w (pos 0) (pos l.y)))

abbrev pub decreases-loop-x : goal.decreases-loop-x
decreases-loop-x l = l.w - l.x
