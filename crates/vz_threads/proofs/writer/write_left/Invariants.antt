use Rattle.std.proofs.Common.{◌≡◌}
use Rattle.vz_threads.proofs.Through.{HasWrittenLeft}
use Rattle.vz_threads.proofs.writer.write_left.Given as goal

abbrev pub invariant-loop : goal.invariant-loop
invariant-loop g l = record {
  pipe : l.sent.pipe ≡ l.receiver.pipe;
  sent : l.sent.sent ≡ l.fn.sent.sent;
  left : HasWrittenLeft l.fn.receiver.taken l.receiver.taken l.slot (g.F.Shelf.shelved l.fn.shelf) (g.F.Shelf.shelved l.shelf);
}
