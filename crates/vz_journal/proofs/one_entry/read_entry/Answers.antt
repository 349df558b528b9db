use Rattle.std.proofs.Common.{subst}
use Rattle.vz_journal.specs.Giving.{Stops}
use Rattle.vz_journal.specs.Reading.{entry_at}
use Rattle.vz_journal.proofs.First.{shorter, first_is, none_first}
use Rattle.vz_journal.proofs.one_entry.read_entry.Goals as goal

pub overflow_sub-result : goal.overflow_sub-result
overflow_sub-result c = shorter c.args.text.now c.new-input.result c.read.new.input c.left.result c.in-Ok.entry c.new-input.ensures c.in-Ok.ensures c.left.ensures

pub returns-in-Ok : goal.returns-in-Ok
returns-in-Ok c = first_is c.args.text.now c.new-input.result c.read.new.input c.left.result c.in-Ok.entry c.new-input.ensures c.in-Ok.ensures c.left.ensures

pub returns-in-Err-Unlike : goal.returns-in-Err-Unlike
returns-in-Err-Unlike c =
    none_first c.args.text.now c.new-input.result c.new-input.ensures (subst (λ stop. Stops stop (entry_at c.new-input.result)) c.in-Err-Unlike.field-0-is c.in-Err-Unlike.ensures)
