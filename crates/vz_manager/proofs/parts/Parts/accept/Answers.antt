use Rattle.std.proofs.Common.{sym, subst}
use Rattle.vz_rules.specs.Messages.{accepted}
use Rattle.vz_manager.specs.Serving.{Serves}
use Rattle.vz_manager.proofs.Submits.{is_submitting}
use Rattle.vz_manager.proofs.Carried.{on_err, serves_back, is_taking_in, has_arrived}
use Rattle.vz_manager.proofs.Carried.{arrived_follows, arrived_room, arrived_ends}
use Rattle.vz_manager.proofs.parts.Parts.accept.Goals as goal

pub read_submission-requires-clause-submits : goal.read_submission-requires-clause-submits
read_submission-requires-clause-submits c =
    let s = c.requires.stands in
    let h = subst (Serves s.0 s.1) (sym c.self.view_is) s.5 in
    (s.0, s.1, s.2, s.3, s.4, is_submitting s.0 s.1 c.args.c s.2 s.3 s.4 _ h s.6)

pub returns-in_err-make_room-clause-err : goal.returns-in_err-make_room-clause-err
returns-in_err-make_room-clause-err c p w old =
    on_err c.from_residual-in_err-make_room.result _
    (c.make_room.ensures.serves p w _ _ _ _ (subst (Serves p w) (sym c.self.view_is) old))

pub take_in-requires-clause-takes : goal.take_in-requires-clause-takes
take_in-requires-clause-takes c =
    let s = c.requires.stands in
    let h = subst (Serves s.0 s.1) (sym c.self.view_is) s.5 in
    let comes = c.in_ok-coming.ensures s.0 s.1 s.2 s.3 s.4 (is_submitting s.0 s.1 c.args.c s.2 s.3 s.4 _ h s.6) in
    let still = c.make_room.ensures.serves s.0 s.1 _ _ _ _ h in (
      s.0,
      s.1,
      s.2,
      s.3,
      s.4,
      is_taking_in s.0 s.1 c.args.c s.2 s.3 s.4 _ c.in_ok-coming.coming c.make_room.new.following still s.6 comes
          c.in_ok-make_room.ensures.room,
    )

pub returns-in_err-taken-clause-err : goal.returns-in_err-taken-clause-err
returns-in_err-taken-clause-err c p w old =
    let h = subst (Serves p w) (sym c.self.view_is) old in
    let still = c.make_room.ensures.serves p w _ _ _ _ h in
    on_err c.from_residual-in_err-taken.result _
    (serves_back p w _ c.take_in.new.support c.take_in.new.settling still (c.in_err-taken.ensures.back p w h.keeps.always h.support)
    c.in_err-taken.ensures.err)

pub finish-requires-clause-follows : goal.finish-requires-clause-follows
finish-requires-clause-follows c =
    let s = c.requires.stands in
    let h = subst (Serves s.0 s.1) (sym c.self.view_is) s.5 in
    let comes = c.in_ok-coming.ensures s.0 s.1 s.2 s.3 s.4 (is_submitting s.0 s.1 c.args.c s.2 s.3 s.4 _ h s.6) in
    let still = c.make_room.ensures.serves s.0 s.1 _ _ _ _ h in
    let room = c.in_ok-make_room.ensures.room in
    let takes = is_taking_in s.0 s.1 c.args.c s.2 s.3 s.4 _ c.in_ok-coming.coming c.make_room.new.following still s.6 comes room in
    let arrived = has_arrived s.0 s.1 c.args.c s.2 s.3 s.4 _ c.in_ok-coming.coming c.make_room.new.following c.in_ok-taken.taken
    c.take_in.new.support c.take_in.new.settling c.take_in.new.activated still s.6 comes room
    (c.in_ok-taken.ensures.accepted s.0 s.1 s.2 s.3 s.4 takes) (c.in_ok-taken.ensures.taken s.0 s.1 s.2 s.3 s.4 takes)
    c.in_ok-taken.ensures.within c.in_ok-taken.ensures.spare c.take_in.ensures.kept in
    let after = (accepted s.1 s.2 s.3 s.4).world in (
      after,
      arrived_follows s.0 s.1 c.args.c s.2 s.3 s.4 _ c.in_ok-coming.coming c.make_room.new.following c.in_ok-taken.taken
          c.take_in.new.support c.take_in.new.settling c.take_in.new.activated arrived c.root-root.result c.is_some-anew.result
          (c.root-root.ensures s.0 after arrived.taken.kept) c.is_some-anew.ensures,
    )

pub finish-requires-clause-room : goal.finish-requires-clause-room
finish-requires-clause-room c =
    let s = c.requires.stands in
    let h = subst (Serves s.0 s.1) (sym c.self.view_is) s.5 in
    let comes = c.in_ok-coming.ensures s.0 s.1 s.2 s.3 s.4 (is_submitting s.0 s.1 c.args.c s.2 s.3 s.4 _ h s.6) in
    let still = c.make_room.ensures.serves s.0 s.1 _ _ _ _ h in
    let room = c.in_ok-make_room.ensures.room in
    let takes = is_taking_in s.0 s.1 c.args.c s.2 s.3 s.4 _ c.in_ok-coming.coming c.make_room.new.following still s.6 comes room in
    let arrived = has_arrived s.0 s.1 c.args.c s.2 s.3 s.4 _ c.in_ok-coming.coming c.make_room.new.following c.in_ok-taken.taken
    c.take_in.new.support c.take_in.new.settling c.take_in.new.activated still s.6 comes room
    (c.in_ok-taken.ensures.accepted s.0 s.1 s.2 s.3 s.4 takes) (c.in_ok-taken.ensures.taken s.0 s.1 s.2 s.3 s.4 takes)
    c.in_ok-taken.ensures.within c.in_ok-taken.ensures.spare c.take_in.ensures.kept in
    arrived_room s.0 s.1 c.args.c s.2 s.3 s.4 _ c.in_ok-coming.coming c.make_room.new.following c.in_ok-taken.taken c.take_in.new.support
    c.take_in.new.settling c.take_in.new.activated arrived

pub returns-clause-step : goal.returns-clause-step
returns-clause-step c p w x local frame old allowed =
    let h = subst (Serves p w) (sym c.self.view_is) old in
    let comes = c.in_ok-coming.ensures p w x local frame (is_submitting p w c.args.c x local frame _ h allowed) in
    let all = accepted w x local frame in
    (arrived_ends p w c.args.c x local frame _ c.in_ok-coming.coming c.make_room.new.following c.in_ok-taken.taken c.take_in.new.support
    c.take_in.new.settling c.finish.new.settling c.take_in.new.activated c.root-root.result c.is_some-anew.result c.finish.result
    (c.make_room.ensures.serves p w _ _ _ _ h) allowed comes c.in_ok-make_room.ensures.room
    (c.in_ok-taken.ensures.accepted p w x local frame) (c.in_ok-taken.ensures.taken p w x local frame) c.in_ok-taken.ensures.within
    c.in_ok-taken.ensures.spare c.take_in.ensures.kept (c.root-root.ensures p all.world) c.is_some-anew.ensures c.finish.ensures.reply
    (λ follows. (c.finish.ensures.effects all.world all.reply follows, c.finish.ensures.stands all.world all.reply follows))
    c.finish.ensures.released c.finish.ensures.out).0

pub returns-clause-serves : goal.returns-clause-serves
returns-clause-serves c p w x local frame old allowed =
    let h = subst (Serves p w) (sym c.self.view_is) old in
    let comes = c.in_ok-coming.ensures p w x local frame (is_submitting p w c.args.c x local frame _ h allowed) in
    let all = accepted w x local frame in
    (arrived_ends p w c.args.c x local frame _ c.in_ok-coming.coming c.make_room.new.following c.in_ok-taken.taken c.take_in.new.support
    c.take_in.new.settling c.finish.new.settling c.take_in.new.activated c.root-root.result c.is_some-anew.result c.finish.result
    (c.make_room.ensures.serves p w _ _ _ _ h) allowed comes c.in_ok-make_room.ensures.room
    (c.in_ok-taken.ensures.accepted p w x local frame) (c.in_ok-taken.ensures.taken p w x local frame) c.in_ok-taken.ensures.within
    c.in_ok-taken.ensures.spare c.take_in.ensures.kept (c.root-root.ensures p all.world) c.is_some-anew.ensures c.finish.ensures.reply
    (λ follows. (c.finish.ensures.effects all.world all.reply follows, c.finish.ensures.stands all.world all.reply follows))
    c.finish.ensures.released c.finish.ensures.out).1
