use Rattle.std.proofs.Common.{◌≡◌, ◌+◌, ◌∙◌, ap, sym, arith}
use Rattle.vz_machine.proofs.Whole.{nothing_patched, nothing_counted, inside_all}
use Rattle.vz_machine.proofs.pixels.paint_area.Goals as goal

pub paint_rows-requires-clause-inside : goal.paint_rows-requires-clause-inside
paint_rows-requires-clause-inside g c =
    inside_all c.args.size.now c.args.area.now c.requires.inside (sym c.is_empty.ensures.value ∙ c.if-is_empty.false)

pub returns-then-is_empty-clause-painted : goal.returns-then-is_empty-clause-painted
returns-then-is_empty-clause-painted g c =
    nothing_patched c.args.size.now c.args.area.now c.args.pixels.now c.args.buffer.now.pixels c.requires.all c.requires.canvas (sym c.is_empty.ensures.value ∙ c.if-is_empty.true)

pub returns-then-is_empty-clause-counted : goal.returns-then-is_empty-clause-counted
returns-then-is_empty-clause-counted g c =
    let none = nothing_counted c.args.area.now c.is_empty.ensures.proper (sym c.is_empty.ensures.value ∙ c.if-is_empty.true) in
    let nothing_more : c.args.steps.now ≡ c.args.steps.now + 0 = grind arith in
    nothing_more ∙ ap (λ n. c.args.steps.now + n) none
