use Rattle.std.proofs.Common.{◌≡◌, ◌≤◌, ◌+◌, ◌++◌, replicate, None, vec_len, vec_capacity}
use Rattle.vz_deadlines.specs.Slots.{held_in}
use Rattle.vz_deadlines.proofs.slots.fill.Given as goal

-- so many free slots are put, and there is room for the others
abbrev pub invariant-loop : goal.invariant-loop
invariant-loop l = (held_in l.slots.items ≡ held_in l.fn.slots.items ++ replicate l.counter None) × (vec_len l.slots + l.more ≤ vec_capacity l.slots + l.counter)
