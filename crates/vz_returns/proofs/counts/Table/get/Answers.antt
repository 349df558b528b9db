use Rattle.std.proofs.Common.{ap, ◌∙◌}
use Rattle.vz_returns.specs.{Held.received_of, Held.alive_of, Ordered.counted_of, Ordered.in_order}
use Rattle.vz_returns.proofs.Orders.{read_some, read_none, received_some, received_none, alive_some, alive_none}
use Rattle.vz_returns.proofs.counts.Table.get.Goals as goal

pub returns-in-Some-clause-received : goal.returns-in-Some-clause-received
returns-in-Some-clause-received c =
    let entries = c.self.inside.counts.entries in
    received_some c.args.id (in_order entries) (counted_of c.args.id c.in-Some.counts.now) (read_some c.args.id entries c.in-Some.counts.now c.in-Some.ensures.value) ∙ ap (λ v. received_of c.args.id v.list) c.self.view_is

pub returns-in-Some-clause-alive : goal.returns-in-Some-clause-alive
returns-in-Some-clause-alive c =
    let entries = c.self.inside.counts.entries in
    alive_some c.args.id (in_order entries) (counted_of c.args.id c.in-Some.counts.now) (read_some c.args.id entries c.in-Some.counts.now c.in-Some.ensures.value) ∙ ap (λ v. alive_of c.args.id v.list) c.self.view_is

pub returns-in-None-clause-received : goal.returns-in-None-clause-received
returns-in-None-clause-received c =
    let entries = c.self.inside.counts.entries in
    received_none c.args.id (in_order entries) (read_none c.args.id entries c.in-None.ensures.value) ∙ ap (λ v. received_of c.args.id v.list) c.self.view_is

pub returns-in-None-clause-alive : goal.returns-in-None-clause-alive
returns-in-None-clause-alive c =
    let entries = c.self.inside.counts.entries in
    alive_none c.args.id (in_order entries) (read_none c.args.id entries c.in-None.ensures.value) ∙ ap (λ v. alive_of c.args.id v.list) c.self.view_is
