use Rattle.std.proofs.Common.{refl, sym, ◌∙◌, subst}
use Rattle.vz_frame.specs.declared.message.Message.TheVariants.{SetRoot}
use Rattle.vz_rules.specs.declared.entry.Event.TheVariants as event
use Rattle.vz_rules.specs.Messages.{root_answer}
use Rattle.vz_surface_manager.proofs.Quiet_changes.{quiet_rooted}
use Rattle.vz_manager.specs.Serving.{Serves}
use Rattle.vz_manager.proofs.Following.{sends_next}
use Rattle.vz_manager.proofs.Stepped.{followed_answer, serves_followed}
use Rattle.vz_manager.proofs.Own_changes.{between, sender_there, root_sent, root_follows, root_room}
use Rattle.vz_manager.proofs.parts.Parts.set_root.Goals as goal

pub ready_to_follow-requires : goal.ready_to_follow-requires
ready_to_follow-requires c =
    let s = c.requires.stands in
    record { between = (s.1, between s.0 s.1 _ (subst (Serves s.0 s.1) (sym c.self.view_is) s.2)) }

pub finish-requires-clause-follows : goal.finish-requires-clause-follows
finish-requires-clause-follows c =
    let s = c.requires.stands in
    let h = subst (Serves s.0 s.1) (sym c.self.view_is) s.2 in
    let n = c.requires.next in
    let x = sender_there s.0 s.1 c.args.self.now c.args.c (SetRoot n.0) s.2 c.requires.some c.requires.known n.1 in
    let u = (root_answer s.1 x.0 n.0).world in (
      u,
      root_follows s.0 s.1 x.0 n.0 _ _ _
          (record { serves = h; rooted = c.root-root.ensures s.0 u (c.set_root-reply.ensures.world s.0 s.1 x.0 n.0 x.1 h.support) }) c.in_ok-ready_to_follow.ensures.room.none_activated,
    )

pub finish-requires-clause-room : goal.finish-requires-clause-room
finish-requires-clause-room c = root_room _ _ c.in_ok-ready_to_follow.ensures.room

pub returns-clause-step : goal.returns-clause-step
returns-clause-step c p w x local old is =
    let h = subst (Serves p w) (sym c.self.view_is) old in
    let sends = sends_next p w _ c.args.c x (SetRoot local) h is in
    let u = (root_answer w x local).world in
    let follows = root_follows p w x local _ _ _
    (record { serves = h; rooted = c.root-root.ensures p u (c.set_root-reply.ensures.world p w x local sends h.support) }) c.in_ok-ready_to_follow.ensures.room.none_activated in
    followed_answer p w (event.Client c.args.c) (root_answer w x local) c.finish.result (root_sent p w c.args.c x local is) refl
    (c.finish.ensures.reply ∙ c.set_root-reply.ensures.reply p w x local sends h.support)
    (c.finish.ensures.effects u (root_answer w x local).reply follows)

pub returns-clause-serves : goal.returns-clause-serves
returns-clause-serves c p w x local old is =
    let h = subst (Serves p w) (sym c.self.view_is) old in
    let sends = sends_next p w _ c.args.c x (SetRoot local) h is in
    let u = (root_answer w x local).world in
    let kept = c.set_root-reply.ensures.world p w x local sends h.support in
    let follows = root_follows p w x local _ _ _
    (record { serves = h; rooted = c.root-root.ensures p u kept }) c.in_ok-ready_to_follow.ensures.room.none_activated in
    serves_followed p w (event.Client c.args.c) (root_answer w x local) _ _ _ h (root_sent p w c.args.c x local is) refl
    (quiet_rooted w x local).in_flight kept (c.finish.ensures.stands u (root_answer w x local).reply follows) c.finish.ensures.released
    c.finish.ensures.out
