use Rattle.std.proofs.Common.{refl, ap, sym, ◌∙◌, subst, arith}
use Rattle.vz_rules.specs.declared.entry.Event.TheVariants as event
use Rattle.vz_rules.specs.Step.{begin_answer}
use Rattle.vz_surface_manager.proofs.Waits_on.{as_many}
use Rattle.vz_surfaces.specs.Reading.{existing_count}
use Rattle.vz_returns.specs.Lent.{resources_out}
use Rattle.vz_surface_manager.specs.Live.{Live}
use Rattle.vz_manager.specs.Serving.{Served, Serves}
use Rattle.vz_manager.proofs.Stepped.{followed_answer, serves_followed}
use Rattle.vz_manager.proofs.Own_changes.{between, begins, begin_sent, begin_leaves, ticked_room, risen_follows, risen_room}
use Rattle.vz_manager.proofs.Unlost.{begun_unlost}
use Rattle.vz_manager.proofs.Rested.{both_none}
use Rattle.vz_manager.proofs.parts.Parts.begin.Goals as goal

pub begin_at_rest-requires : goal.begin_at_rest-requires
begin_at_rest-requires c =
    let v = c.self.inside.settling in
    let none = both_none v.waiting.due v.live.kept.temporary c.is_at_rest.result c.is_at_rest.ensures c.if-is_at_rest.true in
    record {
      stands = c.requires.stands;
      none_waits = sym (ap (λ (o : Served). o.settling.waiting.due) c.self.view_is) ∙ none.0;
      none_lasts = sym (ap (λ (o : Served). o.settling.live.kept.temporary) c.self.view_is) ∙ none.1;
    }

pub returns-then-is_at_rest-clause-step : goal.returns-then-is_at_rest-clause-step
returns-then-is_at_rest-clause-step c p w old = c.begin_at_rest.ensures.step p w old

pub returns-then-is_at_rest-clause-serves : goal.returns-then-is_at_rest-clause-serves
returns-then-is_at_rest-clause-serves c p w old = c.begin_at_rest.ensures.serves p w old

pub ready_to_follow-requires : goal.ready_to_follow-requires
ready_to_follow-requires c =
    let s = c.requires.stands in
    record { between = (s.1, between s.0 s.1 _ (subst (Serves s.0 s.1) (sym c.self.view_is) s.2)) }

pub ticked-requires : goal.ticked-requires
ticked-requires c =
    let s = c.requires.stands in
    let h = subst (Serves s.0 s.1) (sym c.self.view_is) s.2 in
    omega (arith, as_many s.1 _ h.settling.waiting, c.in_ok-ready_to_follow.ensures.room.activated)

pub finish-requires-clause-follows : goal.finish-requires-clause-follows
finish-requires-clause-follows c =
    let s = c.requires.stands in
    let h = subst (Serves s.0 s.1) (sym c.self.view_is) s.2 in
    let risen = begins s.0 s.1 _ c.begin-tick.result _ _ _ _ _ h c.begin-tick.ensures.reply c.begin-tick.ensures.world c.root-root.ensures
    c.tick.ensures.live c.ticked.ensures.waits c.ticked.ensures.out c.in_ok-ready_to_follow.ensures.room.none_activated in (
      (begin_answer s.0 s.1).world,
      risen_follows s.0 s.1 (begin_answer s.0 s.1).world _ _ _ _ _ risen
          (begun_unlost s.0 s.1 _ _ _ h.keeps h.settling.live.kept risen.settles.stands.live.kept c.tick.ensures.temporary
          c.temporary-anew.ensures),
    )

pub finish-requires-clause-room : goal.finish-requires-clause-room
finish-requires-clause-room c =
    let s = c.requires.stands in
    let h = subst (Serves s.0 s.1) (sym c.self.view_is) s.2 in
    let room = c.in_ok-ready_to_follow.ensures.room in
    let risen = begins s.0 s.1 _ c.begin-tick.result _ _ _ _ _ h c.begin-tick.ensures.reply c.begin-tick.ensures.world c.root-root.ensures
    c.tick.ensures.live c.ticked.ensures.waits c.ticked.ensures.out room.none_activated in
    risen_room s.0 s.1 (begin_answer s.0 s.1).world _ _ _ _ _ risen
    (record {
      surfaces = ap (λ (v : Live). existing_count v.store) c.tick.ensures.rest;
      lent = ap (λ (v : Live). v.lent) c.tick.ensures.rest;
      owed = ap (λ (v : Live). v.owed) c.tick.ensures.rest;
      sets = c.tick.ensures.sets;
      temporary = c.tick.ensures.temporary;
    }) room
    (ticked_room s.1 (begin_answer s.0 s.1).world _ _ _ _ h.settling.waiting risen.settles.stands.waiting c.ticked.ensures.room)

pub returns-clause-step : goal.returns-clause-step
returns-clause-step c p w old =
    let h = subst (Serves p w) (sym c.self.view_is) old in
    let u = (begin_answer p w).world in
    let risen = begins p w _ c.begin-tick.result _ _ _ _ _ h c.begin-tick.ensures.reply c.begin-tick.ensures.world c.root-root.ensures
    c.tick.ensures.live c.ticked.ensures.waits c.ticked.ensures.out c.in_ok-ready_to_follow.ensures.room.none_activated in
    let follows = risen_follows p w u _ _ _ _ _ risen
    (begun_unlost p w _ _ _ h.keeps h.settling.live.kept risen.settles.stands.live.kept c.tick.ensures.temporary c.temporary-anew.ensures) in
    followed_answer p w event.Begin (begin_answer p w) c.finish.result (begin_sent p w) refl
    (c.finish.ensures.reply ∙ sym (c.begin-tick.ensures.reply p w h.support))
    (c.finish.ensures.effects u (begin_answer p w).reply follows)

pub returns-clause-serves : goal.returns-clause-serves
returns-clause-serves c p w old =
    let h = subst (Serves p w) (sym c.self.view_is) old in
    let u = (begin_answer p w).world in
    let risen = begins p w _ c.begin-tick.result _ _ _ _ _ h c.begin-tick.ensures.reply c.begin-tick.ensures.world c.root-root.ensures
    c.tick.ensures.live c.ticked.ensures.waits c.ticked.ensures.out c.in_ok-ready_to_follow.ensures.room.none_activated in
    let follows = risen_follows p w u _ _ _ _ _ risen
    (begun_unlost p w _ _ _ h.keeps h.settling.live.kept risen.settles.stands.live.kept c.tick.ensures.temporary c.temporary-anew.ensures) in
    serves_followed p w event.Begin (begin_answer p w) _ _ _ h (begin_sent p w) refl (begin_leaves p w).in_flight
    (c.begin-tick.ensures.world p w h.support)
    (c.finish.ensures.stands u (begin_answer p w).reply follows) c.finish.ensures.released
    (omega (arith, c.finish.ensures.out, ap (λ (v : Live). resources_out v.lent) c.tick.ensures.rest))
