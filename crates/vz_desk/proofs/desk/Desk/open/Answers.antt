use Rattle.std.proofs.Common.{arith, ap, sym, ◌∙◌, Some, length, ◌+◌}
use Rattle.vz_loans.specs.Tokens.{unused_from}
use Rattle.vz_desk.specs.{Totals.no_display_totals, Owners.owner_of}
use Rattle.vz_desk.proofs.Dealing.{all_unused, ends_are, last_is, planned_is, length_unused}
use Rattle.vz_desk.proofs.desk.Desk.open.Goals as goal

pub take_ends-requires-clause-unused : goal.take_ends-requires-clause-unused
take_ends-requires-clause-unused g c κs within =
    all_unused c.in-Ok.lock.id c.new-book.result.plan c.args.clients c.in-Ok.tokens.items c.in-Ok.ensures.tokens (c.requires.clients ∙ ap (λ p. length p.files) (sym c.new-book.ensures.plan))

pub take_ends-requires-clause-room : goal.take_ends-requires-clause-room
take_ends-requires-clause-room g c κs within =
    let many = ap length c.in-Ok.ensures.tokens ∙ length_unused c.in-Ok.lock.id (Some c.new-book.result.plan) 0 (c.args.clients + 1) in let n = c.in-Ok.tokens.ok.0 in let room = c.in_ok-ends.ensures.capacity in omega arith

pub display_of-display-requires-clause-unused : goal.display_of-display-requires-clause-unused
display_of-display-requires-clause-unused g c κs within = planned_is c.in-Ok.lock.id c.new-book.result.plan 0 c.in-Some.token
    (last_is c.in-Ok.lock.id c.new-book.result.plan c.args.clients c.in-Ok.tokens.items c.take_ends.new.tokens.items c.pop.new.self.items c.in-Some.token c.in-Ok.ensures.tokens c.take_ends.ensures.tokens (c.in-Some.ensures).items)

pub returns-clause-ends : goal.returns-clause-ends
returns-clause-ends g c = ends_are c.in-Ok.lock.id (g.M.Machine.state c.args.machine).plan c.args.clients c.in-Ok.tokens.items c.take_ends.new.ends.items
    (c.in-Ok.ensures.tokens ∙ ap (λ p. unused_from c.in-Ok.lock.id (Some p) 0 (c.args.clients + 1)) c.new-book.ensures.plan) c.take_ends.ensures.ends

pub returns-clause-display : goal.returns-clause-display
returns-clause-display g c = c.display_of-display.ensures ∙ ap (λ t. owner_of t no_display_totals)
    (last_is c.in-Ok.lock.id (g.M.Machine.state c.args.machine).plan c.args.clients c.in-Ok.tokens.items c.take_ends.new.tokens.items c.pop.new.self.items c.in-Some.token
    (c.in-Ok.ensures.tokens ∙ ap (λ p. unused_from c.in-Ok.lock.id (Some p) 0 (c.args.clients + 1)) c.new-book.ensures.plan) c.take_ends.ensures.tokens (c.in-Some.ensures).items)
