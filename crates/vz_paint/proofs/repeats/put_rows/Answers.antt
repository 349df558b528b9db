use Rattle.std.proofs.Common.{refl}
use Rattle.vz_paint.proofs.Rows_behind.{no_row, row_more, row_more_long}
use Rattle.vz_paint.proofs.repeats.put_rows.Goals as goal

pub loop-k-init : goal.loop-k-init
loop-k-init c = (refl, no_row c.args.width c.args.left c.args.row.now c.args.pixels.now)

pub loop-k-preserved : goal.loop-k-preserved
loop-k-preserved c =
    let a = c.args in
    let l = c.loop-k in (
      row_more_long a.width a.left l.k a.count c.place-at.result a.row.now c.copy_from_slice.new.self l.pixels a.pixels.now c.requires.inside c.requires.long c.loop-k-test.true l.invariant.0 c.place-at.ensures.value c.copy_from_slice.ensures.after,
      row_more a.width a.left l.k c.place-at.result a.row.now c.copy_from_slice.new.self l.pixels a.pixels.now l.invariant.1 c.place-at.ensures.value c.copy_from_slice.ensures.after,
    )
