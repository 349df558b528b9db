use Rattle.std.proofs.Common.{◌+◌, pos, arith}
use Rattle.vz_plain.specs.Shown.{colour_of}
use Rattle.vz_plain.proofs.Filling.{row_more}
use Rattle.vz_plain.proofs.pictures.row.Goals as goal

pub loop-x-preserved : goal.loop-x-preserved
loop-x-preserved c =
    let most = c.next_count-count.ensures.most in
    let test = c.loop-x-test.true in
    let fits = c.loop-x.invariant.0 in (
      omega (arith, most, test, fits),
      row_more (colour_of c.args.active.now c.args.root.now) c.args.w c.loop-x.x c.next_count-count.result (c.loop-x.x + c.next_count-count.result) (pos c.args.y) c.loop-x.into.items c.piece.new.into.items _
          (omega (arith, most, test)) (omega arith) c.in_ok-piece.ensures c.loop-x.invariant.1,
    )
