use Rattle.std.proofs.Common.{◌≡◌}
use mathlib.Core.List.{IsPrefix}
use Rattle.vz_threads.proofs.writer.skip_all.Given as goal

abbrev pub invariant-loop : goal.invariant-loop
invariant-loop g l = record {
  pipe : l.receiver.pipe ≡ l.fn.receiver.pipe;
  longer : IsPrefix l.fn.receiver.taken l.receiver.taken;
}
