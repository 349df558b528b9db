use Rattle.std.proofs.Common.{◌≡◌, ℕ, Some, None, List, ap, sym, ◌∙◌}
use Rattle.vz_journal.specs.Reading.{items_at}
use Rattle.vz_journal.proofs.Rows.{goes_on, stops_there, is_done}
use Rattle.vz_journal.proofs.item.all.Goals as goal

pub loop-preserved : goal.loop-preserved
loop-preserved g c =
    let read = g.I.Item.value_at c.args.item.now in
    let found : read c.loop.here ≡ Some (c.in-Ok.value, c.read.new.input) = ap read (sym c.ahead-ahead.ensures) ∙ c.in-Ok.ensures in
    rw c.in_ok-push-in-Ok.ensures.items (goes_on read c.loop.values.items c.left-most.result c.loop.counter c.loop.here c.read.new.input c.in-Ok.value (items_at read c.left-most.result c.args.input.now) c.loop-test.true found c.loop.invariant)

pub returns-in-Err-Unlike : goal.returns-in-Err-Unlike
returns-in-Err-Unlike g c =
    let read = g.I.Item.value_at c.args.item.now in
    let missed = rw c.in-Err-Unlike.field-0-is at c.in-Err-Unlike.ensures in
    let none : read c.loop.here ≡ None = ap read (sym c.ahead-ahead.ensures) ∙ missed in
    let end = stops_there read c.loop.values.items c.left-most.result c.loop.counter c.loop.here (items_at read c.left-most.result c.args.input.now) c.loop-test.true none c.loop.invariant in
    ap Some (ap (λ (n : ℕ). items_at read n c.args.input.now) (sym c.left-most.ensures) ∙ end ∙ ap (λ (xs : List g.row.I-Value.Denot). (xs, c.loop.here)) (sym c.from_vec.ensures))

pub returns : goal.returns
returns g c =
    let read = g.I.Item.value_at c.args.item.now in
    let end = is_done read c.loop.values.items c.left-most.result c.loop.counter c.loop.here (items_at read c.left-most.result c.args.input.now) c.loop-test.false c.loop.invariant in
    ap Some (ap (λ (n : ℕ). items_at read n c.args.input.now) (sym c.left-most.ensures) ∙ end ∙ ap (λ (xs : List g.row.I-Value.Denot). (xs, c.loop.here)) (sym c.from_vec-2.ensures))
