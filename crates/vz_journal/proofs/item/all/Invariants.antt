use Rattle.std.proofs.Common.{◌≡◌, ◌-◌}
use Rattle.vz_journal.specs.Reading.{items_at}
use Rattle.vz_journal.proofs.Rows.{with_front}
use Rattle.vz_journal.proofs.item.all.Given as goal

abbrev pub invariant-loop : goal.invariant-loop
invariant-loop g l =
    let read = g.I.Item.value_at l.item in
    with_front l.values.items (items_at read (l.most - l.counter) l.here) ≡ items_at read l.most l.fn.input
