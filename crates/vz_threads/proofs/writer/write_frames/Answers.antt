use Rattle.std.proofs.Common.{sym}
use Rattle.vz_threads.specs.Pipes.{bytes_of}
use Rattle.vz_threads.proofs.{Papers.front_longer, Through.bytes_then_bytes}
use Rattle.vz_threads.proofs.writer.write_frames.Goals as goal

pub returns-in-Err-clause-wrote : goal.returns-in-Err-clause-wrote
returns-in-Err-clause-wrote g c =
    let w = c.in-Err.ensures.wrote in
    let a = g.F.Shelf.shelved c.args.shelf.now in
    let b = g.F.Shelf.shelved c.write_taken.new.shelf in
    let before = c.write_taken.new.receiver.taken in
    let after = c.skip_all.new.receiver.taken in
    let more = c.skip_all.ensures.longer in
    record {
      written = tt;
      begun = front_longer (bytes_of before) (bytes_of more.0) (bytes_of after) (a.name c.args.slot) a b (bytes_then_bytes before more.0 after (sym more.1)) w.begun;
      others = w.others;
      behaves = w.behaves;
    }
