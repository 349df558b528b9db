use Rattle.std.proofs.Common.{◌≡◌, ◌≤◌, ◌*◌, map, length, vec_len, vec_capacity}
use Rattle.std.specs.List.{All}
use Rattle.vz_paint.specs.Scratch.{scratch_bytes, most_bytes}
use Rattle.vz_paint.specs.Strips.{IsBrush}
use Rattle.vz_paint.proofs.brush.brushes_for.Given as goal

-- so many brushes are made
abbrev pub invariant-loop : goal.invariant-loop
invariant-loop l =
    (l.count ≤ vec_capacity l.brushes) × (vec_len l.brushes ≡ l.counter) × (length l.brushes.items ≡ l.counter)
    × All (λ b. (b.ops.now ≡ l.ops) × (b.sheet ≡ l.sheet) × IsBrush (map (λ r. r.now) b.ops.now) b.sheet.area b.rows b.groups.items) l.brushes.items
    × (scratch_bytes l.brushes.items ≤ l.counter * most_bytes l.sheet.area l.sheet.deepest)
