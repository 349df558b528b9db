use Rattle.std.proofs.Common.{refl}
use Rattle.vz_rules.specs.declared.entry.Event.TheVariants as event
use Rattle.vz_desk.proofs.Booking.{goes_on, keeps_on, landed}
use Rattle.vz_desk.proofs.book.Book.done.Goals as goal

pub invariant_of-self : goal.invariant_of-self
invariant_of-self g c = keeps_on (g.M.Machine.state c.self.inside.machine) (g.M.Machine.state c.done-step.new.self) _ _ c.args.self.now event.Done _ _ _ _ _ _ c.self.invariant c.self.view_is c.done-step.ensures.answer c.done-step.ensures.world c.entry_of.ensures refl c.put.ensures.list tt
    (landed (g.M.Machine.state c.self.inside.machine) (g.M.Machine.state c.done-step.new.self) _ c.done-step.ensures.world)

pub returns : goal.returns
returns g c = goes_on (g.M.Machine.state c.self.inside.machine) (g.M.Machine.state c.done-step.new.self) _ c.args.self.now event.Done _ _ _ _ _ _ c.self.invariant c.self.view_is c.done-step.ensures.answer c.done-step.ensures.world c.entry_of.ensures refl c.put.ensures.list
