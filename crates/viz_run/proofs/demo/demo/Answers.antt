use Rattle.std.proofs.Common.{sym, ap, ◌∙◌}
use Rattle.vz_outside.proofs.Behaving.{on_err}
use Rattle.vz_rules.specs.Plan.{Plan, IsPlan}
use Rattle.viz_run.specs.Planned.{demo_plan}
use Rattle.viz_run.specs.Demo.{demo_events}
use Rattle.viz_run.proofs.Demonstrated.{none_played, all_played, named_by, front_by, history_by, counted_by, line_by}
use Rattle.viz_run.proofs.Opened.{its_plan, its_world, of_its_plan}
use Rattle.viz_run.proofs.Gating.{none_gated}
use Rattle.viz_run.proofs.demo.demo.Goals as goal

pub returns-in_err-plan-clause-front : goal.returns-in_err-plan-clause-front
returns-in_err-plan-clause-front g c =
    on_err c.from_residual.result _ (none_played (demo_plan c.args.rounds) (demo_events c.args.rounds) c.args.history.now c.requires.empty)

pub returns-in_err-events-clause-front : goal.returns-in_err-events-clause-front
returns-in_err-events-clause-front g c =
    on_err c.from_residual-in_err-events.result _
    (none_played (demo_plan c.args.rounds) (demo_events c.args.rounds) c.args.history.now c.requires.empty)

pub returns-in_err-machine-clause-front : goal.returns-in_err-machine-clause-front
returns-in_err-machine-clause-front g c =
    on_err c.from_residual-in_err-machine.result _
    (none_played (demo_plan c.args.rounds) (demo_events c.args.rounds) c.args.history.now c.requires.empty)

pub play_all-requires-clause-opening : goal.play_all-requires-clause-opening
play_all-requires-clause-opening g c = λ _ _. its_world c.in_ok-machine.machine c.in_ok-plan.plan c.in_ok-machine.ensures

pub play_all-requires-clause-plan : goal.play_all-requires-clause-plan
play_all-requires-clause-plan g c = λ _ _.
    of_its_plan c.in_ok-machine.machine c.in_ok-plan.plan c.in_ok-machine.ensures IsPlan c.files.ensures.kept

pub play_all-requires-clause-size : goal.play_all-requires-clause-size
play_all-requires-clause-size g c = λ _ _.
    let opened = its_plan c.in_ok-machine.machine c.in_ok-plan.plan c.in_ok-machine.ensures in
    ap (λ (p : Plan). p.size) opened ∙ sym c.size-size.ensures.value

pub play_all-requires-clause-named : goal.play_all-requires-clause-named
play_all-requires-clause-named g c = λ _ _.
    let opened = its_plan c.in_ok-machine.machine c.in_ok-plan.plan c.in_ok-machine.ensures in
    let p = c.in_ok-machine.machine.plan in
    let es = c.deref.result.now in
    let plan = opened ∙ c.in_ok-plan.ensures in
    let events = c.deref.ensures.value ∙ c.in_ok-events.ensures in
    named_by c.args.rounds p es plan events

pub returns-in_err-painted-clause-front : goal.returns-in_err-painted-clause-front
returns-in_err-painted-clause-front g c =
    let opened = its_plan c.in_ok-machine.machine c.in_ok-plan.plan c.in_ok-machine.ensures in
    let p = c.in_ok-machine.machine.plan in
    let es = c.deref.result.now in
    let plan = opened ∙ c.in_ok-plan.ensures in
    let events = c.deref.ensures.value ∙ c.in_ok-events.ensures in
    on_err c.from_residual-in_err-painted.result _
    (front_by c.args.rounds p es plan events c.play_all.new.history c.in_err-painted.ensures.front)

pub returns-in_err-demo_line-clause-front : goal.returns-in_err-demo_line-clause-front
returns-in_err-demo_line-clause-front g c =
    let opened = its_plan c.in_ok-machine.machine c.in_ok-plan.plan c.in_ok-machine.ensures in
    let p = c.in_ok-machine.machine.plan in
    let es = c.deref.result.now in
    let plan = opened ∙ c.in_ok-plan.ensures in
    let events = c.deref.ensures.value ∙ c.in_ok-events.ensures in
    on_err c.from_residual-in_err-demo_line.result _
    (all_played (demo_plan c.args.rounds) (demo_events c.args.rounds) c.play_all.new.history
    (history_by c.args.rounds p es plan events c.play_all.new.history c.in_ok-painted.ensures.history))

pub returns-clause-history : goal.returns-clause-history
returns-clause-history g c =
    let opened = its_plan c.in_ok-machine.machine c.in_ok-plan.plan c.in_ok-machine.ensures in
    let p = c.in_ok-machine.machine.plan in
    let es = c.deref.result.now in
    let plan = opened ∙ c.in_ok-plan.ensures in
    let events = c.deref.ensures.value ∙ c.in_ok-events.ensures in
    history_by c.args.rounds p es plan events c.play_all.new.history c.in_ok-painted.ensures.history

pub returns-clause-line : goal.returns-clause-line
returns-clause-line g c =
    let opened = its_plan c.in_ok-machine.machine c.in_ok-plan.plan c.in_ok-machine.ensures in
    let p = c.in_ok-machine.machine.plan in
    let es = c.deref.result.now in
    let plan = opened ∙ c.in_ok-plan.ensures in
    let events = c.deref.ensures.value ∙ c.in_ok-events.ensures in
    line_by c.args.rounds p es plan events c.play_all.new.history c.as_slice.result.now c.in_ok-painted.painted _ c.as_slice.ensures
    c.in_ok-painted.ensures.painted c.in_ok-demo_line.ensures

pub returns-clause-counted : goal.returns-clause-counted
returns-clause-counted g c =
    let opened = its_plan c.in_ok-machine.machine c.in_ok-plan.plan c.in_ok-machine.ensures in
    let p = c.in_ok-machine.machine.plan in
    let es = c.deref.result.now in
    let plan = opened ∙ c.in_ok-plan.ensures in
    let events = c.deref.ensures.value ∙ c.in_ok-events.ensures in
    counted_by c.args.rounds p es plan events c.play_all.new.history c.args.steps.now c.play_all.new.steps c.in_ok-painted.ensures.counted

pub returns-in_err-plan-clause-gated : goal.returns-in_err-plan-clause-gated
returns-in_err-plan-clause-gated g c = none_gated (g.G.Gate.told c.args.gate.now) c.args.history.now c.requires.empty

pub returns-in_err-events-clause-gated : goal.returns-in_err-events-clause-gated
returns-in_err-events-clause-gated g c = none_gated (g.G.Gate.told c.args.gate.now) c.args.history.now c.requires.empty

pub returns-in_err-machine-clause-gated : goal.returns-in_err-machine-clause-gated
returns-in_err-machine-clause-gated g c = none_gated (g.G.Gate.told c.args.gate.now) c.args.history.now c.requires.empty

pub returns-in_err-painted-clause-gated : goal.returns-in_err-painted-clause-gated
returns-in_err-painted-clause-gated g c = c.play_all.ensures.gated

pub returns-in_err-demo_line-clause-gated : goal.returns-in_err-demo_line-clause-gated
returns-in_err-demo_line-clause-gated g c = c.play_all.ensures.gated

pub returns-clause-gated : goal.returns-clause-gated
returns-clause-gated g c = c.play_all.ensures.gated
