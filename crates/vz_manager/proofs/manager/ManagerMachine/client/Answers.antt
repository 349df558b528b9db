use Rattle.vz_rules.specs.declared.entry.Event.TheVariants as event
use Rattle.vz_manager.specs.Managing.{led_to}
use Rattle.vz_manager.proofs.Managed.{stands_more, serves_lent, goes_more, answers_so, known_client, found_client}
use Rattle.vz_manager.proofs.manager.ManagerMachine.client.Goals as goal

pub client-requires-clause-stands : goal.client-requires-clause-stands
client-requires-clause-stands c =
    let p = c.self.inside.plan.value in
    let told = c.self.inside.told in
    let known = known_client c.args.self.now p told c.args.c _ c.self.view_is c.requires c.self.invariant in
    let here = found_client p (led_to p told).world c.args.c _ c.self.invariant known.0 known.1 in
    (p, (led_to p told).world, here.0, serves_lent _ _ _ _ c.deref_mut.ensures.value c.self.invariant, here.1)

pub invariant_of-self-2 : goal.invariant_of-self-2
invariant_of-self-2 c =
    let p = c.self.inside.plan.value in
    let told = c.self.inside.told in
    let known = known_client c.args.self.now p told c.args.c _ c.self.view_is c.requires c.self.invariant in
    let here = found_client p (led_to p told).world c.args.c _ c.self.invariant known.0 known.1 in
    stands_more p told c.show.new.self (event.Client c.args.c) _ c.show.ensures (c.in_ok-step.ensures.serves _ _ here.0 (serves_lent _ _ _ _ c.deref_mut.ensures.value c.self.invariant) here.1)

pub returns-clause-answer : goal.returns-clause-answer
returns-clause-answer c =
    let p = c.self.inside.plan.value in
    let told = c.self.inside.told in
    let known = known_client c.args.self.now p told c.args.c _ c.self.view_is c.requires c.self.invariant in
    let here = found_client p (led_to p told).world c.args.c _ c.self.invariant known.0 known.1 in
    answers_so c.args.self.now p told (event.Client c.args.c) _ c.self.view_is (c.in_ok-step.ensures.step _ _ here.0 (serves_lent _ _ _ _ c.deref_mut.ensures.value c.self.invariant) here.1)

pub returns-clause-world : goal.returns-clause-world
returns-clause-world c =
    goes_more c.args.self.now c.self.inside.plan.value c.self.inside.told c.show.new.self (event.Client c.args.c) c.self.view_is c.show.ensures
