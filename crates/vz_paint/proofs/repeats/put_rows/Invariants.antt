use Rattle.std.proofs.Common.{◌≡◌, length}
use Rattle.vz_buffers.specs.Bands.{rows_put}
use Rattle.vz_paint.proofs.repeats.put_rows.Given as goal

-- so many rows have the pixels
abbrev pub invariant-loop-k : goal.invariant-loop-k
invariant-loop-k l = (length l.pixels ≡ length l.fn.pixels) × (l.pixels ≡ rows_put l.width l.left (λ k. l.row) l.k l.fn.pixels)
