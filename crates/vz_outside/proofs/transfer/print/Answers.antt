use Rattle.std.proofs.{Common.length, Common.take, Common.drop, Common.◌-◌, lemmas.List.take_rest}
use Rattle.vz_outside.proofs.Prints.{printed_more}
use Rattle.vz_outside.proofs.transfer.print.Goals as goal

pub loop-printed-preserved : goal.loop-printed-preserved
loop-printed-preserved g c =
    let wrote = c.in_ok-printed.ensures in
    let all = c.args.bytes.now in
    let done = c.loop-printed.printed in
    printed_more all (take (length all - done) (drop done all)) _ _ _ _ _ c.loop-printed.invariant (take_rest all done)
    wrote.count wrote.taken wrote.behaves
