use Rattle.std.proofs.Common.{◌+◌, length, ap, ◌∙◌, arith}
use Rattle.vz_machine.proofs.{Spans.place_fits, Spans.row_length, Rows.from_is, Rows.row_fits, Rows.row_put}
use Rattle.vz_machine.proofs.pixels.paint_row.Goals as goal

pub span-row-requires : goal.span-row-requires
span-row-requires g c =
    let r = c.requires in
    let from = from_is c.args.size.now c.args.area.now c.args.below c.x-x.result c.row_below-y.result c.place-from.result r.sides r.inside r.row c.x-x.ensures c.row_below-y.ensures.value c.place-from.ensures.value in
    let wide = c.width.ensures.value in
    let fits = place_fits c.args.size.now c.args.area.now c.args.below c.args.pixels.now r.sides r.inside r.row r.all in
    omega (arith, from, wide, fits)

pub put_span-requires-clause-right : goal.put_span-requires-clause-right
put_span-requires-clause-right g c =
    let r = c.requires in
    let from = from_is c.args.size.now c.args.area.now c.args.below c.x-x.result c.row_below-y.result c.place-from.result r.sides r.inside r.row c.x-x.ensures c.row_below-y.ensures.value c.place-from.ensures.value in
    let wide = c.width.ensures.value in
    let fits = place_fits c.args.size.now c.args.area.now c.args.below c.args.pixels.now r.sides r.inside r.row r.all in
    let long = ap length c.span-row.ensures.value ∙ row_length c.args.pixels.now c.place-from.result c.width.result (omega (arith, from, wide, fits)) in
    row_fits c.args.size.now c.args.buffer.now.size c.args.area.now c.x-x.result (length c.span-row.result.now) r.sides r.inside c.x-x.ensures (long ∙ wide) r.same

pub returns-clause-painted : goal.returns-clause-painted
returns-clause-painted g c =
    let r = c.requires in
    let from = from_is c.args.size.now c.args.area.now c.args.below c.x-x.result c.row_below-y.result c.place-from.result r.sides r.inside r.row c.x-x.ensures c.row_below-y.ensures.value c.place-from.ensures.value in
    row_put c.args.size.now c.args.buffer.now.size c.args.area.now c.args.below c.x-x.result c.row_below-y.result c.place-from.result c.width.result c.args.pixels.now c.args.buffer.now.pixels c.span-row.result.now c.put_span.new.self.pixels
    r.sides r.inside r.row r.all r.canvas r.same c.x-x.ensures c.row_below-y.ensures.value from c.width.ensures.value c.span-row.ensures.value c.put_span.ensures.put

pub returns-clause-counted : goal.returns-clause-counted
returns-clause-counted g c =
    let r = c.requires in
    let from = from_is c.args.size.now c.args.area.now c.args.below c.x-x.result c.row_below-y.result c.place-from.result r.sides r.inside r.row c.x-x.ensures c.row_below-y.ensures.value c.place-from.ensures.value in
    let wide = c.width.ensures.value in
    let fits = place_fits c.args.size.now c.args.area.now c.args.below c.args.pixels.now r.sides r.inside r.row r.all in
    let long = ap length c.span-row.ensures.value ∙ row_length c.args.pixels.now c.place-from.result c.width.result (omega (arith, from, wide, fits)) in
    c.put_span.ensures.counted ∙ ap (λ n. c.args.steps.now + n) (long ∙ wide)
