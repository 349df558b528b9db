use Rattle.std.proofs.Common.{rules, refl, sym, subst, take}
use Rattle.vz_outside.proofs.Behaving.{on_err}
use Rattle.vz_player.proofs.Telling.{gated_none, gated_then}
use Rattle.viz_run.specs.Taken.{HasTested}
use Rattle.viz_run.proofs.Takes.{one_tested}
use Rattle.viz_run.proofs.hit.take_all.Goals as goal

pub loop-event-init : goal.loop-event-init
loop-event-init g c = record {
  tested = search rules;
  gated = gated_none (g.G.Gate.told c.args.gate.now) c.args.tester.now.history c.args.tester.now.history refl;
}

pub loop-event-preserved : goal.loop-event-preserved
loop-event-preserved g c =
    let at = c.loop-event in
    record {
      tested = one_tested c.args.events.now at.event-index _ c.args.tester.now at.tester c.turn.new.self c.loop-event-test.true at.invariant.tested
          c.in_ok-turn.ensures.taken;
      gated = gated_then (g.G.Gate.told c.args.gate.now) c.args.tester.now.history at.tester.history c.turn.new.self.history at.invariant.gated c.turn.ensures.gated;
    }

pub returns-in_err-turn-clause-front : goal.returns-in_err-turn-clause-front
returns-in_err-turn-clause-front g c =
    let at = c.loop-event in
    on_err c.from_residual.result _
    (at.event-index, subst (HasTested (take at.event-index c.args.events.now) c.args.tester.now) (sym c.in_err-turn.ensures.err) at.invariant.tested)

pub returns-in_err-turn-clause-gated : goal.returns-in_err-turn-clause-gated
returns-in_err-turn-clause-gated g c =
    let at = c.loop-event in
    gated_then (g.G.Gate.told c.args.gate.now) c.args.tester.now.history at.tester.history c.turn.new.self.history at.invariant.gated c.turn.ensures.gated
