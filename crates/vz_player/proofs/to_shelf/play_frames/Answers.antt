use Rattle.std.proofs.Common.{rules, ◌<◌, length, get_or, refl, ap, subst, sym, ◌∙◌}
use Rattle.vz_outside.proofs.Calls.{ran_one}
use Rattle.vz_rules.specs.declared.entry.Event.TheVariants.{Client}
use Rattle.vz_rules.specs.Step.{NamesClient}
use Rattle.vz_player.specs.Taken.{StopsAmong, AddsFramesFront}
use Rattle.vz_player.proofs.Adding.{others_kept}
use Rattle.vz_outside.proofs.Behaving.{on_err, behaves_at, then_behaves}
use Rattle.vz_player.proofs.Taking.{none_played, plan_stays, stopped_stays, more_played, stops_there, front_there}
use Rattle.vz_player.proofs.Telling.{gated_none, gated_then}
use Rattle.vz_player.proofs.to_shelf.play_frames.Goals as goal

pub loop-event-init : goal.loop-event-init
loop-event-init g c = record {
  played = none_played c.args.file.slot c.args.player.now c.args.steps.now (g.F.Shelf.shelved c.args.shelf.now) c.requires.open;
  gated = gated_none (g.G.Gate.told c.args.gate.now) c.args.player.now.history c.args.player.now.history refl;
}

pub play_one-requires-clause-going : goal.play_one-requires-clause-going
play_one-requires-clause-going g c = λ κs within.
    let here : c.loop-event.event-index < length c.args.events.now = search rules in
    stopped_stays c.args.file.slot c.args.events.now c.loop-event.event-index (Client 0) here _ _ _ _ _ _ c.loop-event.invariant.played ∙ c.requires.going

pub play_one-requires-clause-named : goal.play_one-requires-clause-named
play_one-requires-clause-named g c = λ κs within.
    let here : c.loop-event.event-index < length c.args.events.now = search rules in
    let is = plan_stays c.args.file.slot c.args.events.now c.loop-event.event-index (Client 0) here _ _ _ _ _ _ c.loop-event.invariant.played in
    subst (λ p. NamesClient p (get_or c.args.events.now c.loop-event.event-index (Client 0))) (sym is) (c.requires.named c.loop-event.event-index (Client 0) here)

pub play_one-requires-clause-size : goal.play_one-requires-clause-size
play_one-requires-clause-size g c = λ κs within.
    let here : c.loop-event.event-index < length c.args.events.now = search rules in
    ap (λ p. p.size) (plan_stays c.args.file.slot c.args.events.now c.loop-event.event-index (Client 0) here _ _ _ _ _ _ c.loop-event.invariant.played) ∙ c.requires.size

pub returns-in_err-play_one-clause-stops : goal.returns-in_err-play_one-clause-stops
returns-in_err-play_one-clause-stops g c =
    let here : c.loop-event.event-index < length c.args.events.now = search rules in
    on_err c.from_residual.result (StopsAmong c.args.player.now c.args.events.now c.play_one.new.player)
    (stops_there c.args.file.slot c.args.events.now c.loop-event.event-index (Client 0) here _ _ _ _ _ _ c.loop-event.invariant.played c.play_one.new.player c.in_err-play_one.ensures.stops)

pub returns-in_err-play_one-clause-begun : goal.returns-in_err-play_one-clause-begun
returns-in_err-play_one-clause-begun g c =
    let here : c.loop-event.event-index < length c.args.events.now = search rules in
    let a = g.F.Shelf.shelved c.args.shelf.now in
    let after = g.F.Shelf.shelved c.play_one.new.shelf in
    on_err c.from_residual.result (AddsFramesFront c.args.player.now c.play_one.new.player (a.name c.args.file.slot) a after)
    (front_there c.args.file.slot c.args.events.now c.loop-event.event-index (Client 0) here _ _ _ _ a _ c.loop-event.invariant.played c.play_one.new.player after c.in_err-play_one.ensures.begun)

pub returns-in_err-play_one-clause-others : goal.returns-in_err-play_one-clause-others
returns-in_err-play_one-clause-others g c = others_kept c.args.file.slot _ _ _ _ c.loop-event.invariant.played.added c.in_err-play_one.ensures.others

pub returns-in_err-play_one-clause-behaves : goal.returns-in_err-play_one-clause-behaves
returns-in_err-play_one-clause-behaves g c =
    behaves_at _ _ _ _ c.from_residual.ensures.1 (then_behaves _ _ _ _ c.loop-event.invariant.played.added.ran c.in_err-play_one.ensures.behaves (λ no. no))

pub loop-event-preserved : goal.loop-event-preserved
loop-event-preserved g c =
    let here : c.loop-event.event-index < length c.args.events.now = search rules in
    let done = c.in_ok-play_one.ensures in
    record {
      played =
          more_played c.args.file.slot c.args.events.now c.loop-event.event-index (Client 0) here _ _ _ _ _ _ c.loop-event.invariant.played c.play_one.new.player c.play_one.new.steps (g.F.Shelf.shelved c.play_one.new.shelf)
          done.played done.written done.others (ran_one tt _ _ done.behaves) done.counted;
      gated = gated_then (g.G.Gate.told c.args.gate.now) c.args.player.now.history c.loop-event.player.history c.play_one.new.player.history c.loop-event.invariant.gated done.gated;
    }

pub returns-in_err-play_one-clause-gated : goal.returns-in_err-play_one-clause-gated
returns-in_err-play_one-clause-gated g c =
    gated_then (g.G.Gate.told c.args.gate.now) c.args.player.now.history c.loop-event.player.history c.play_one.new.player.history c.loop-event.invariant.gated c.in_err-play_one.ensures.gated
