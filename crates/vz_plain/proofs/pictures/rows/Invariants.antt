use Rattle.std.proofs.Common.{◌≡◌, ◌-◌, ◌++◌, pos, map}
use Rattle.vz_geom.specs.Rectangle.{rows_points}
use Rattle.vz_plain.specs.Shown.{colour_of}
use Rattle.vz_plain.proofs.pictures.rows.Given as goal

-- with the rows from y on it is the whole picture
abbrev pub invariant-loop-y : goal.invariant-loop-y
invariant-loop-y l =
    l.colours.items ++ map (colour_of l.active l.root) (rows_points (l.h - l.y) l.w (pos l.y))
    ≡ map (colour_of l.active l.root) (rows_points l.h l.w (pos 0))
