use Rattle.std.proofs.Common.{arith, subst}
use Rattle.vz_rules.specs.declared.entry.Event.TheVariants as event
use Rattle.vz_desk.proofs.Booking.{goes_on, keeps_on, shows_on}
use Rattle.vz_desk.proofs.book.Book.draw.Goals as goal

pub invariant_of-self-2 : goal.invariant_of-self-2
invariant_of-self-2 g c = keeps_on (g.M.Machine.state c.self.inside.machine) (g.M.Machine.state c.draw.new.self) _ _ c.args.self.now event.Draw _ _ _ _ _ _ c.self.invariant c.self.view_is c.in_ok-step.ensures.answer c.in_ok-step.ensures.world c.entry_of.ensures c.in_ok-reserve.ensures.list c.put.ensures.list tt
    (λ _. let a = c.in_ok-reserve.ensures.ok in let b = c.put.ensures.spare in omega arith)

pub returns-clause-ok : goal.returns-clause-ok
returns-clause-ok g c = goes_on (g.M.Machine.state c.self.inside.machine) (g.M.Machine.state c.draw.new.self) _ c.args.self.now event.Draw _ _ _ _ _ _ c.self.invariant c.self.view_is c.in_ok-step.ensures.answer c.in_ok-step.ensures.world c.entry_of.ensures c.in_ok-reserve.ensures.list c.put.ensures.list

pub returns-clause-picture : goal.returns-clause-picture
returns-clause-picture g c = shows_on (g.M.Machine.state c.self.inside.machine) c.self.inside.history.spare c.args.self.now event.Draw _ _ (subst (Rattle.vz_desk.specs.Books.IsBooked _ _ _) c.self.view_is c.self.invariant) c.in_ok-step.ensures.answer c.in_ok-step.ensures.picture
