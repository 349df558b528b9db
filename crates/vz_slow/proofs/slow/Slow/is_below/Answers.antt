use Rattle.std.proofs.Common.{sym, ap, ◌∙◌, subst}
use Rattle.vz_rules.specs.World.{World, Machine}
use Rattle.vz_slow.specs.Asked.{AreFewFrom, is_below}
use Rattle.vz_slow.specs.Reaching.{IsReached, world_at}
use Rattle.vz_slow.proofs.Asking.{few_from, few_first, first_relations}
use Rattle.vz_slow.proofs.slow.Slow.is_below.Goals as goal

-- nothing is related at the opening
pub is_below-requires : goal.is_below-requires
is_below-requires c =
    let p = c.self.inside.plan.now in few_first p c.in-Opening.over (subst (λ s. IsReached p (world_at p s)) c.in-Opening.is c.self.invariant.reached)

-- what is related are the clients' sinks
pub is_below-requires-in-Running : goal.is_below-requires-in-Running
is_below-requires-in-Running c =
    let p = c.self.inside.plan.now in
    subst (AreFewFrom p) (sym (c.deref.ensures.value ∙ ap (λ (w : World). w.relations) c.world.view_is))
    (few_from p c.in-Running.world (subst (λ s. IsReached p (world_at p s)) c.in-Running.is c.self.invariant.reached))

pub returns-in-Opening : goal.returns-in-Opening
returns-in-Opening c =
    let p = c.self.inside.plan.now in
    c.is_below.ensures
    ∙ sym (ap (λ (m : Machine). is_below m.plan m.world.relations c.args.sink) (sym c.self.view_is)
    ∙ (ap (λ s. is_below p (world_at p s).relations c.args.sink) c.in-Opening.is ∙ ap (λ l. is_below p l c.args.sink) (first_relations p c.in-Opening.over)))
