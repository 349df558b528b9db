use Rattle.std.proofs.Common.{◌≡◌}
use Rattle.vz_player.proofs.Adding.{HasAdded}
use Rattle.vz_threads.specs.Pipes.{bytes_of}
use Rattle.vz_threads.proofs.writer.write_taken.Given as goal

abbrev pub invariant-loop : goal.invariant-loop
invariant-loop g l = record {
  pipe : l.receiver.pipe ≡ l.fn.receiver.pipe;
  added : HasAdded (bytes_of l.receiver.taken) l.slot (g.F.Shelf.shelved l.fn.shelf) (g.F.Shelf.shelved l.shelf);
}
