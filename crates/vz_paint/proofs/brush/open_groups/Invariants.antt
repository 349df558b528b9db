use Rattle.std.proofs.Common.{◌≡◌, ◌≤◌, ◌*◌, length, vec_len, vec_capacity}
use Rattle.vz_paint.specs.Stack.{HavePixels}
use Rattle.vz_paint.specs.Scratch.{group_bytes}
use Rattle.vz_paint.proofs.brush.open_groups.Given as goal

-- so many groups are made
abbrev pub invariant-loop : goal.invariant-loop
invariant-loop l =
    (l.count ≤ vec_capacity l.groups) × (vec_len l.groups ≡ l.counter) × (length l.groups.items ≡ l.counter) × HavePixels l.pixels l.groups.items
    × (group_bytes l.groups.items ≡ 4 * (l.counter * l.pixels))
