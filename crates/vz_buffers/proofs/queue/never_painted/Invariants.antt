use Rattle.std.proofs.Common.{◌≡◌, replicate, None}
use Rattle.vz_buffers.proofs.queue.never_painted.Given as goal

abbrev pub invariant-loop : goal.invariant-loop
invariant-loop l = l.stales.items ≡ replicate l.counter None
