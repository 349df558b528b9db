use Rattle.std.proofs.Common.{◌*◌, length, ◌∙◌}
use Rattle.vz_display.proofs.Rows.{width_is, row_fits, bytes_fit, row_is}
use Rattle.vz_display.proofs.display.copy_row.Goals as goal

pub span-requires : goal.span-requires
span-requires c =
    let b = c.args.buffer.now in
    let r = c.requires in
    let is = c.size.ensures.proper in
    let wide = width_is b c.size.result c.unsigned_abs-width.result is c.size.ensures.value c.unsigned_abs-width.ensures.value in
    row_fits b c.args.size.now c.args.y c.unsigned_abs.result c.unsigned_abs-width.result c.bytes.result.now is r.same r.top r.bottom wide c.unsigned_abs.ensures.value c.bytes.ensures

pub copy_from_slice-requires : goal.copy_from_slice-requires
copy_from_slice-requires c =
    let b = c.args.buffer.now in
    let r = c.requires in
    let is = c.size.ensures.proper in
    let wide = width_is b c.size.result c.unsigned_abs-width.result is c.size.ensures.value c.unsigned_abs-width.ensures.value in
    let fits = row_fits b c.args.size.now c.args.y c.unsigned_abs.result c.unsigned_abs-width.result c.bytes.result.now is r.same r.top r.bottom wide c.unsigned_abs.ensures.value c.bytes.ensures in
    bytes_fit b c.args.size.now (c.unsigned_abs.result * c.unsigned_abs-width.result) c.unsigned_abs-width.result (length c.args.into.now) c.bytes.result.now c.span.result.now r.same wide fits c.span.ensures r.bytes

pub returns : goal.returns
returns c =
    let b = c.args.buffer.now in
    let r = c.requires in
    let is = c.size.ensures.proper in
    let wide = width_is b c.size.result c.unsigned_abs-width.result is c.size.ensures.value c.unsigned_abs-width.ensures.value in
    c.copy_from_slice.ensures.after
    ∙ row_is b c.args.size.now c.args.y c.unsigned_abs.result c.unsigned_abs-width.result c.bytes.result.now c.span.result.now is r.same r.top r.bottom wide c.unsigned_abs.ensures.value c.bytes.ensures c.span.ensures
