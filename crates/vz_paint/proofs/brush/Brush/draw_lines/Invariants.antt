use Rattle.std.proofs.Common.{◌≡◌, ◌≤◌, ◌-◌, map, length}
use Rattle.vz_buffers.specs.Bands.{rows_put, rows_from}
use Rattle.vz_paint.specs.Strips.{IsBrush, strip_of}
use Rattle.vz_paint.proofs.brush.Brush.draw_lines.Given as goal

-- the bands so far are painted
abbrev pub invariant-loop-done : goal.invariant-loop-done
invariant-loop-done l =
    IsBrush (map (λ r. r.now) l.self.ops.now) l.self.sheet.area l.self.rows l.self.groups.items × (l.self.ops.now ≡ l.fn.self.ops.now) × (l.self.sheet ≡ l.fn.self.sheet)
    × (l.done ≤ l.lines.count) × (length l.pixels ≡ length l.fn.pixels)
    × (l.pixels ≡ rows_put l.lines.width l.lines.left (rows_from l.from (strip_of (map (λ r. r.now) l.fn.self.ops.now) l.fn.self.sheet.ground l.fn.self.sheet.area).row) l.done l.fn.pixels)

-- how many rows are left
abbrev pub decreases-loop-done : goal.decreases-loop-done
decreases-loop-done l = l.lines.count - l.done
