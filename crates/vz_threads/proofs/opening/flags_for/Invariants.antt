use Rattle.std.proofs.Common.{◌≡◌, ◌≤◌, length, vec_capacity}
use Rattle.vz_threads.proofs.opening.flags_for.Given as goal

abbrev pub invariant-loop : goal.invariant-loop
invariant-loop l = record {
  done : length l.flags.items ≡ l.counter;
  room : l.count ≤ vec_capacity l.flags;
}
