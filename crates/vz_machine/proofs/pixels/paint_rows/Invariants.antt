use Rattle.std.proofs.Common.{◌≡◌, ◌+◌, ◌*◌, length, nat_abs}
use Rattle.vz_geom.specs.Rectangle.{points_of}
use Rattle.vz_buffers.specs.Canvas.{pixel_count}
use Rattle.vz_rules.specs.Frames.{patched}
use Rattle.vz_machine.specs.Pictured.{first_rows}
use Rattle.vz_machine.proofs.pixels.paint_rows.Given as goal

-- the rows so far are painted
abbrev pub invariant-loop-below : goal.invariant-loop-below
invariant-loop-below g l =
    (l.buffer.size ≡ l.size)
    × (length l.buffer.pixels ≡ pixel_count l.size)
    × (l.buffer.pixels ≡ patched (first_rows l.area l.below) (points_of l.size) l.pixels l.initial.buffer.pixels)
    × (l.steps ≡ l.initial.steps + l.below * nat_abs l.area.w)
