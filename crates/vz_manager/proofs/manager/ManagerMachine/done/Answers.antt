use Rattle.vz_rules.specs.declared.entry.Event.TheVariants as event
use Rattle.vz_manager.proofs.Managed.{stands_more, serves_lent, goes_more}
use Rattle.vz_manager.proofs.manager.ManagerMachine.done.Goals as goal

pub invariant_of-self : goal.invariant_of-self
invariant_of-self c =
    stands_more c.self.inside.plan.value c.self.inside.told c.show.new.self event.Done _ c.show.ensures
    (c.done-step.ensures.serves _ _ (serves_lent _ _ _ _ c.deref_mut.ensures.value c.self.invariant))

pub returns-clause-world : goal.returns-clause-world
returns-clause-world c = goes_more c.args.self.now c.self.inside.plan.value c.self.inside.told c.show.new.self event.Done c.self.view_is c.show.ensures
