use Rattle.std.proofs.Common.{rules, refl, arith}
use Rattle.vz_outside.proofs.Behaving.{on_err}
use Rattle.vz_player.proofs.Telling.{gated_none, gated_then}
use Rattle.viz_run.proofs.Takes.{one_taken, goes_on, stopped_at}
use Rattle.viz_run.proofs.demo.take_all.Goals as goal

pub loop-event-init : goal.loop-event-init
loop-event-init g c = record {
  taken = search rules;
  going = c.requires.going;
  counted = search rules;
  gated = gated_none (g.G.Gate.told c.args.gate.now) c.args.player.now.history c.args.player.now.history refl;
}

pub loop-event-preserved : goal.loop-event-preserved
loop-event-preserved g c =
    let at = c.loop-event in
    let before = at.invariant in
    let turned = c.in_ok-turn.ensures in
    let counted = turned.counted in
    let counted_before = before.counted in
    record {
      taken = one_taken c.args.events.now at.event-index _ c.args.player.now at.player c.turn.new.self c.loop-event-test.true before.taken turned.taken;
      going = goes_on c.args.events.now at.event-index _ c.args.player.now at.player c.turn.new.self c.loop-event-test.true before.taken turned.taken before.going;
      counted = omega (arith, counted, counted_before);
      gated = gated_then (g.G.Gate.told c.args.gate.now) c.args.player.now.history at.player.history c.turn.new.self.history before.gated c.turn.ensures.gated;
    }

pub returns-in_err-turn-clause-front : goal.returns-in_err-turn-clause-front
returns-in_err-turn-clause-front g c =
    let at = c.loop-event in
    on_err c.from_residual.result _
    (stopped_at c.args.events.now at.event-index _ c.args.player.now at.player c.turn.new.self c.loop-event-test.true at.invariant.taken
    c.in_err-turn.ensures.err)

pub returns-in_err-turn-clause-gated : goal.returns-in_err-turn-clause-gated
returns-in_err-turn-clause-gated g c =
    let at = c.loop-event in
    gated_then (g.G.Gate.told c.args.gate.now) c.args.player.now.history at.player.history c.turn.new.self.history at.invariant.gated c.turn.ensures.gated
