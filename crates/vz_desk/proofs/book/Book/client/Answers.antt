use Rattle.std.proofs.Common.{arith}
use Rattle.vz_rules.specs.declared.entry.Event.TheVariants as event
use Rattle.vz_desk.proofs.{Booking.goes_on, Booking.keeps_on, Telling.tells_next}
use Rattle.vz_desk.proofs.book.Book.client.Goals as goal

pub invariant_of-self-2 : goal.invariant_of-self-2
invariant_of-self-2 g c = keeps_on (g.M.Machine.state c.self.inside.machine) (g.M.Machine.state c.client.new.self) _ _ c.args.self.now (event.Client c.args.client) _ _ _ _ _ _ c.self.invariant c.self.view_is c.in_ok-step.ensures.answer c.in_ok-step.ensures.world c.entry_of-entry.ensures c.in_ok-reserve.ensures.list c.put.ensures.list c.requires.known
    (λ _. let a = c.in_ok-reserve.ensures.ok in let b = c.put.ensures.spare in omega arith)

pub returns-clause-ok : goal.returns-clause-ok
returns-clause-ok g c = goes_on (g.M.Machine.state c.self.inside.machine) (g.M.Machine.state c.client.new.self) _ c.args.self.now (event.Client c.args.client) _ _ _ _ _ _ c.self.invariant c.self.view_is c.in_ok-step.ensures.answer c.in_ok-step.ensures.world c.entry_of-entry.ensures c.in_ok-reserve.ensures.list c.put.ensures.list

pub returns-clause-told : goal.returns-clause-told
returns-clause-told g c = tells_next (g.M.Machine.state c.self.inside.machine) _ c.args.self.now c.args.client _ c.entry_of-entry.result c.listed-listed.result _ _ _ _ _ c.note_of-told.result c.at.result c.is_in_time-in_time.result c.self.invariant c.self.view_is c.in_ok-step.ensures.answer c.entry_of-entry.ensures
    c.listed-listed.ensures c.in_ok-reserve.ensures.list c.put.ensures.list c.as_slice.ensures c.as_slice.type_inv.0 c.note_of-told.ensures c.at.ensures c.is_in_time-in_time.ensures
