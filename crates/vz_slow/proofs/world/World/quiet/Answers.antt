use Rattle.std.proofs.Common.{refl, sym, ap, ◌∙◌}
use Rattle.std.specs.Option.{option_copied}
use Rattle.vz_rules.specs.World.{World}
use Rattle.vz_rules.specs.Messages.{client_answer}
use Rattle.vz_rules.specs.declared.entry.Refusal.TheVariants as refusal
use Rattle.vz_rules.specs.declared.entry.Reply.TheVariants as reply
use Rattle.vz_slow.proofs.Answering.{client_at_is, client_found, known_none, known_closed, known_open}
use Rattle.vz_slow.proofs.Quieting.{alone_none, alone_refused, alone_as}
use Rattle.vz_slow.proofs.world.World.quiet.Goals as goal

pub returns-in-None-next_message-clause-ok : goal.returns-in-None-next_message-clause-ok
returns-in-None-next_message-clause-ok c =
    let w = c.args.self.now in
    let x = c.in-Some.client.now in
    let found = client_at_is w c.args.c c.deref.result.now _ _ c.client_of.ensures (c.deref.ensures.value ∙ ap (λ (u : World). u.clients) c.self.view_is) (ap option_copied c.in-Some.is) in
    alone_none w w (reply.Refused refusal.NoMessage) (client_answer c.args.plan.now w c.args.c) refl
    (known_none c.args.plan.now w x _ c.next_message.ensures.value (ap option_copied c.in-None-next_message.is) ∙ client_found c.args.plan.now w c.args.c x found)

pub returns-then-is_closed-clause-ok : goal.returns-then-is_closed-clause-ok
returns-then-is_closed-clause-ok c =
    let w = c.args.self.now in
    let x = c.in-Some.client.now in
    let found = client_at_is w c.args.c c.deref.result.now _ _ c.client_of.ensures (c.deref.ensures.value ∙ ap (λ (u : World). u.clients) c.self.view_is) (ap option_copied c.in-Some.is) in
    alone_refused w c.refuse.new.self x c.in_ok-refuse-in-Some-next_message.field-0 refusal.AlreadyClosed (client_answer c.args.plan.now w c.args.c) (c.in_ok-refuse-in-Some-next_message.ensures.value x found)
    (known_closed c.args.plan.now w x _ _ c.next_message.ensures.value (ap option_copied c.in-Some-next_message.is) (sym c.is_closed.ensures ∙ c.if-is_closed.true)
    ∙ client_found c.args.plan.now w c.args.c x found)

pub returns-in_ok-quiet_message-in-Some-next_message-clause-ok : goal.returns-in_ok-quiet_message-in-Some-next_message-clause-ok
returns-in_ok-quiet_message-in-Some-next_message-clause-ok c =
    let w = c.args.self.now in
    let x = c.in-Some.client.now in
    let found = client_at_is w c.args.c c.deref.result.now _ _ c.client_of.ensures (c.deref.ensures.value ∙ ap (λ (u : World). u.clients) c.self.view_is) (ap option_copied c.in-Some.is) in
    alone_as w c.quiet_message.new.self _ _ c.in_ok-quiet_message-in-Some-next_message.field-0
    (known_open c.args.plan.now w x _ _ c.next_message.ensures.value (ap option_copied c.in-Some-next_message.is) (sym c.is_closed.ensures ∙ c.if-is_closed.false)
    ∙ client_found c.args.plan.now w c.args.c x found) (c.in_ok-quiet_message-in-Some-next_message.ensures.ok x found)
