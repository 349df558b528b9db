use Rattle.std.proofs.Common.{refl, ap, sym, ◌∙◌, subst, arith}
use Rattle.vz_frame.specs.declared.message.Message.TheVariants.{Close}
use Rattle.vz_rules.specs.declared.entry.Event.TheVariants as event
use Rattle.vz_rules.specs.Messages.{message_answer}
use Rattle.vz_returns.specs.Lent.{resources_out}
use Rattle.vz_surface_manager.specs.Live.{Live}
use Rattle.vz_manager.specs.Serving.{Serves}
use Rattle.vz_manager.proofs.Following.{sends_next}
use Rattle.vz_manager.proofs.Stepped.{followed_answer, serves_followed}
use Rattle.vz_manager.proofs.Own_changes.{between, sender_there, number_there, closes, close_sent, close_reply, close_leaves}
use Rattle.vz_manager.proofs.Own_changes.{risen_follows, risen_room}
use Rattle.vz_manager.proofs.Unlost.{always_asked}
use Rattle.vz_manager.proofs.parts.Parts.close.Goals as goal

pub ready_to_follow-requires : goal.ready_to_follow-requires
ready_to_follow-requires c =
    let s = c.requires.stands in
    record { between = (s.1, between s.0 s.1 _ (subst (Serves s.0 s.1) (sym c.self.view_is) s.2)) }

pub close-requires-2 : goal.close-requires-2
close-requires-2 c =
    let s = c.requires.stands in
    record { number = number_there s.0 s.1 c.args.self.now c.args.c s.2 c.requires.some c.requires.known }

pub closed-requires : goal.closed-requires
closed-requires c = omega (arith, c.in_ok-ready_to_follow.ensures.room.activated)

pub finish-requires-clause-follows : goal.finish-requires-clause-follows
finish-requires-clause-follows c =
    let s = c.requires.stands in
    let h = subst (Serves s.0 s.1) (sym c.self.view_is) s.2 in
    let x = sender_there s.0 s.1 c.args.self.now c.args.c Close s.2 c.requires.some c.requires.known c.requires.next in
    let u = (message_answer s.1 x.0 Close).world in (
      u,
      risen_follows s.0 s.1 u _ _ _ _ _
          (closes s.0 s.1 c.args.c x.0 _ c.sink-sink.result _ _ _ _ _ h x.1 c.sink-sink.ensures c.close.ensures
          c.root-root.ensures c.close-2.ensures.live c.closed.ensures.waits c.closed.ensures.out
          c.in_ok-ready_to_follow.ensures.room.none_activated) (always_asked u),
    )

pub finish-requires-clause-room : goal.finish-requires-clause-room
finish-requires-clause-room c =
    let s = c.requires.stands in
    let h = subst (Serves s.0 s.1) (sym c.self.view_is) s.2 in
    let x = sender_there s.0 s.1 c.args.self.now c.args.c Close s.2 c.requires.some c.requires.known c.requires.next in
    let room = c.in_ok-ready_to_follow.ensures.room in
    risen_room s.0 s.1 (message_answer s.1 x.0 Close).world _ _ _ _ _
    (closes s.0 s.1 c.args.c x.0 _ c.sink-sink.result _ _ _ _ _ h x.1 c.sink-sink.ensures c.close.ensures
    c.root-root.ensures c.close-2.ensures.live c.closed.ensures.waits c.closed.ensures.out room.none_activated)
    (record {
      surfaces = c.close-2.ensures.surfaces;
      lent = ap (λ (v : Live). v.lent) c.close-2.ensures.rest;
      owed = ap (λ (v : Live). v.owed) c.close-2.ensures.rest;
      sets = c.close-2.ensures.sets;
      temporary = c.close-2.ensures.temporary;
    }) room c.closed.ensures.room

pub returns-clause-step : goal.returns-clause-step
returns-clause-step c p w x old is =
    let h = subst (Serves p w) (sym c.self.view_is) old in
    let sends = sends_next p w _ c.args.c x Close h is in
    let u = (message_answer w x Close).world in
    let follows = risen_follows p w u _ _ _ _ _
    (closes p w c.args.c x _ c.sink-sink.result _ _ _ _ _ h sends c.sink-sink.ensures c.close.ensures
    c.root-root.ensures c.close-2.ensures.live c.closed.ensures.waits c.closed.ensures.out
    c.in_ok-ready_to_follow.ensures.room.none_activated) (always_asked u) in
    followed_answer p w (event.Client c.args.c) (message_answer w x Close) c.finish.result (close_sent p w c.args.c x is) refl
    (c.finish.ensures.reply ∙ sym (close_reply w x))
    (c.finish.ensures.effects u (message_answer w x Close).reply follows)

pub returns-clause-serves : goal.returns-clause-serves
returns-clause-serves c p w x old is =
    let h = subst (Serves p w) (sym c.self.view_is) old in
    let sends = sends_next p w _ c.args.c x Close h is in
    let u = (message_answer w x Close).world in
    let follows = risen_follows p w u _ _ _ _ _
    (closes p w c.args.c x _ c.sink-sink.result _ _ _ _ _ h sends c.sink-sink.ensures c.close.ensures
    c.root-root.ensures c.close-2.ensures.live c.closed.ensures.waits c.closed.ensures.out
    c.in_ok-ready_to_follow.ensures.room.none_activated) (always_asked u) in
    serves_followed p w (event.Client c.args.c) (message_answer w x Close) _ _ _ h (close_sent p w c.args.c x is) refl
    (close_leaves w x).in_flight (c.close.ensures p w x sends h.support)
    (c.finish.ensures.stands u (message_answer w x Close).reply follows) c.finish.ensures.released
    (omega (arith, c.finish.ensures.out, ap (λ (v : Live). resources_out v.lent) c.close-2.ensures.rest))
