use Rattle.std.proofs.Common.{Some, [], ◌∷◌, ◌++◌, length, ap, ◌∙◌, arith}
use Rattle.std.proofs.lemmas.List.{length-set}
use Rattle.indexmap.specs.IndexMap.{get, Updates, spare as spare_of}
use Rattle.vz_ids.specs.Ids.{same_sub}
use Rattle.vz_deadlines.specs.Timing.{waits}
use Rattle.vz_deadlines.proofs.Keeps.{kept_put, put_list, on_ok}
use Rattle.vz_deadlines.proofs.Stands.{standing_fits}
use Rattle.vz_deadlines.proofs.deadlines.Deadlines.set.Goals as goal

pub overflow_add-self : goal.overflow_add-self
overflow_add-self c =
    let long = ap length c.put.ensures.slots ∙ length-set c.self.inside.slots c.self.inside.used _ in
    omega (arith, long, c.put.ensures.small, ap (λ v. v.spare) c.self.view_is, c.in_ok-ready.ensures.ok)

pub overflow_add-self-2 : goal.overflow_add-self-2
overflow_add-self-2 c =
    let long = ap length c.put.ensures.slots ∙ length-set c.self.inside.slots c.self.inside.used _ in
    let fits = standing_fits c.self.inside.slots in
    omega (arith, long, fits, c.self.invariant.waiting, c.put.ensures.small)

pub invariant_of-self : goal.invariant_of-self
invariant_of-self c =
    let inside = c.self.inside in
    let updates = on_ok c.insert.result c.unwrap.result (Updates same_sub inside.places c.insert.new.self c.args.s (Some inside.used)) c.unwrap.ensures c.insert.ensures.updates in
    kept_put inside.slots c.put.new.self inside.used inside.waiting (spare_of inside.places) (spare_of c.insert.new.self) (get same_sub inside.places) (get same_sub c.insert.new.self) (record { sub = c.args.s; tick = c.args.tick })
    c.self.invariant (omega (arith, ap (λ v. v.spare) c.self.view_is, c.in_ok-ready.ensures.ok)) (ap (λ l. waits l c.args.s) (ap (λ v. v.list) c.self.view_is ∙ c.in_ok-ready.ensures.list) ∙ c.requires)
    c.put.ensures.slots updates.1 updates.2 c.insert.ensures.spare

pub returns-clause-list : goal.returns-clause-list
returns-clause-list c =
    put_list c.self.inside.slots c.put.new.self c.self.inside.used c.self.inside.waiting (spare_of c.self.inside.places) (get same_sub c.self.inside.places) (record { sub = c.args.s; tick = c.args.tick }) c.self.invariant
    (omega (arith, ap (λ v. v.spare) c.self.view_is, c.in_ok-ready.ensures.ok)) c.put.ensures.slots
    ∙ ap (λ l. l ++ record { sub = c.args.s; tick = c.args.tick } ∷ []) (ap (λ v. v.list) c.self.view_is ∙ c.in_ok-ready.ensures.list)
