use Rattle.std.proofs.Common.{length}
use Rattle.vz_paint.proofs.Rows_behind.{rows_fit, row_repeated}
use Rattle.vz_paint.proofs.repeats.repeat_row.Goals as goal

pub put_rows-requires-clause-long : goal.put_rows-requires-clause-long
put_rows-requires-clause-long c =
    let a = c.args in
    let n = a.lines in
    let parts = c.split_at_mut-above.ensures in
    rows_fit n.width a.done a.alike n.count c.place-next.result (length a.pixels.now) (length c.split_at_mut-above.result.1.now) c.requires.some c.requires.low c.requires.pixels c.place-next.ensures.value parts.back_len

pub returns-clause-repeated : goal.returns-clause-repeated
returns-clause-repeated c = λ row before same long like is.
    let a = c.args in
    let n = a.lines in
    let parts = c.split_at_mut-above.ensures in
    row_repeated n.width n.left n.wide a.done a.alike n.count c.place-at.result c.place-next.result row before a.pixels.now c.split_at_mut-above.result.0.now c.split_at_mut-above.result.1.now c.put_rows.new.pixels
    c.requires.inside same long c.requires.pixels like c.requires.some c.requires.low c.place-at.ensures.value c.place-next.ensures.value parts.value parts.front_len is c.put_rows.ensures
