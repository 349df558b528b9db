use Rattle.std.proofs.Common.{◌≡◌, ◌+◌, ◌*◌, nat_abs, arith}
use Rattle.vz_machine.proofs.Rows.{rows_begin, rows_step, rows_end, rows_long, count_step, count_end}
use Rattle.vz_machine.specs.Pictured.{first_rows}
use Rattle.vz_machine.proofs.pixels.paint_rows.Goals as goal

pub loop-below-init : goal.loop-below-init
loop-below-init g c =
    let r = c.requires in
    let none : c.args.steps.now ≡ c.args.steps.now + 0 * nat_abs c.args.area.now.w = grind arith in
    (r.same, r.canvas, rows_begin c.args.size.now c.args.area.now c.args.pixels.now c.args.buffer.now.pixels r.all r.canvas, none)

pub loop-below-preserved : goal.loop-below-preserved
loop-below-preserved g c =
    let r = c.requires in
    let i = c.loop-below.invariant in
    let e = c.paint_row.ensures in
    let k = c.loop-below.below in
    let area = c.args.area.now in
    let more = rows_step c.args.size.now area k c.args.pixels.now c.args.buffer.now.pixels c.loop-below.buffer.pixels c.paint_row.new.buffer.pixels r.all r.canvas i.2 e.painted in (
      e.size,
      rows_long c.args.size.now (first_rows area (k + 1)) c.args.pixels.now c.args.buffer.now.pixels c.paint_row.new.buffer.pixels r.all r.canvas more,
      more,
      count_step c.loop-below.steps c.args.steps.now (nat_abs area.w) (nat_abs area.w) k c.paint_row.new.steps i.3 e.counted,
    )

pub returns-clause-painted : goal.returns-clause-painted
returns-clause-painted g c =
    let r = c.requires in
    let tall = c.height-below-end.ensures.value in
    let done = c.loop-below-test.false in
    let most = c.loop-below.auto.below-end in
    rows_end c.args.size.now c.args.area.now c.loop-below.below c.args.pixels.now c.args.buffer.now.pixels c.loop-below.buffer.pixels r.inside.high (omega (arith, tall, done, most)) c.loop-below.invariant.2

pub returns-clause-counted : goal.returns-clause-counted
returns-clause-counted g c =
    let r = c.requires in
    let tall = c.height-below-end.ensures.value in
    let done = c.loop-below-test.false in
    let most = c.loop-below.auto.below-end in
    count_end c.args.area.now c.loop-below.steps c.args.steps.now c.loop-below.below r.inside.wide r.inside.high (omega (arith, tall, done, most)) c.loop-below.invariant.3
