use Rattle.std.proofs.Common.{sym, ap, ◌∙◌}
use Rattle.std.specs.Option.{option_copied}
use Rattle.vz_rules.specs.World.{World}
use Rattle.vz_slow.proofs.Answering.{client_at_is, client_none, client_found, known_none, known_closed, known_open}
use Rattle.vz_slow.proofs.world.World.client.Goals as goal

pub returns-in-None : goal.returns-in-None
returns-in-None c =
    client_none c.args.plan.now c.args.self.now c.args.c
    (client_at_is c.args.self.now c.args.c c.deref.result.now _ _ c.client_of.ensures (c.deref.ensures.value ∙ ap (λ (u : World). u.clients) c.self.view_is) (ap option_copied c.in-None.is))

pub returns-in-None-next_message : goal.returns-in-None-next_message
returns-in-None-next_message c =
    let w = c.args.self.now in
    let x = c.in-Some.client.now in
    let found = client_at_is w c.args.c c.deref.result.now _ _ c.client_of.ensures (c.deref.ensures.value ∙ ap (λ (u : World). u.clients) c.self.view_is) (ap option_copied c.in-Some.is) in
    known_none c.args.plan.now w x _ c.next_message.ensures.value (ap option_copied c.in-None-next_message.is) ∙ client_found c.args.plan.now w c.args.c x found

pub returns-then-is_closed : goal.returns-then-is_closed
returns-then-is_closed c =
    let w = c.args.self.now in
    let x = c.in-Some.client.now in
    let found = client_at_is w c.args.c c.deref.result.now _ _ c.client_of.ensures (c.deref.ensures.value ∙ ap (λ (u : World). u.clients) c.self.view_is) (ap option_copied c.in-Some.is) in
    c.in_ok-refuse-in-Some-next_message.ensures.value x found
    ∙ (known_closed c.args.plan.now w x _ _ c.next_message.ensures.value (ap option_copied c.in-Some-next_message.is) (sym c.is_closed.ensures ∙ c.if-is_closed.true)
    ∙ client_found c.args.plan.now w c.args.c x found)

pub returns-in_ok-message-in-Some-next_message : goal.returns-in_ok-message-in-Some-next_message
returns-in_ok-message-in-Some-next_message c =
    let w = c.args.self.now in
    let x = c.in-Some.client.now in
    let found = client_at_is w c.args.c c.deref.result.now _ _ c.client_of.ensures (c.deref.ensures.value ∙ ap (λ (u : World). u.clients) c.self.view_is) (ap option_copied c.in-Some.is) in
    c.in_ok-message-in-Some-next_message.ensures x found
    ∙ (known_open c.args.plan.now w x _ _ c.next_message.ensures.value (ap option_copied c.in-Some-next_message.is) (sym c.is_closed.ensures ∙ c.if-is_closed.false)
    ∙ client_found c.args.plan.now w c.args.c x found)
