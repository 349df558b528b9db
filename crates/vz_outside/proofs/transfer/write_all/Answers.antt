use Rattle.std.proofs.{Common.length, Common.take, Common.drop, Common.◌-◌, lemmas.List.take_rest}
use Rattle.vz_outside.proofs.Writes.{written_more}
use Rattle.vz_outside.proofs.transfer.write_all.Goals as goal

pub loop-written-preserved : goal.loop-written-preserved
loop-written-preserved g c =
    let wrote = c.in_ok-written.ensures in
    let all = c.args.bytes.now in
    let done = c.loop-written.written in
    written_more all (take (length all - done) (drop done all)) _ _ _ _ _ _ c.loop-written.invariant (take_rest all done)
    wrote.count wrote.appended wrote.others wrote.behaves
