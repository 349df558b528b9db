use Rattle.std.proofs.Common.{◌∙◌, All, List, refl, sym, ap, subst, arith}
use Rattle.vz_outside.proofs.Calls.{ran_one}
use Rattle.viz_run.specs.Read.{texts}
use Rattle.vz_rules.specs.Plan.{Plan, IsPlan}
use Rattle.vz_rules.specs.Step.{NamesClient}
use Rattle.vz_rules.specs.declared.entry.Entry.{Entry}
use Rattle.viz_run.specs.Ends.{outputs_of}
use Rattle.viz_run.specs.Lines.{end_line}
use Rattle.viz_run.specs.Stepped.{command_of}
use Rattle.viz_run.proofs.Demonstrated.{all_played}
use Rattle.viz_run.proofs.Admitting.{step_given, step_refused}
use Rattle.viz_run.proofs.Exits.{memory_at, refused_at, cut_behind, memory_behind, done_behind, made_of, made_front, made_history}
use Rattle.viz_run.proofs.Fitting.{some_named, files_fit, sides_fit, names_differ}
use Rattle.viz_run.proofs.Opened.{its_plan, its_world, of_its_plan}
use Rattle.viz_run.proofs.Stepping.{all_begun, went_through}
use Rattle.viz_run.proofs.Gating.{none_gated}
use Rattle.viz_run.proofs.step.step.Goals as goal

pub size_of-size-requires : goal.size_of-size-requires
size_of-size-requires g c = sides_fit _ _ _ _ _ _ c.requires.fits

pub admit-requires-clause-some : goal.admit-requires-clause-some
admit-requires-clause-some g c = λ _ _. (some_named c.args.words.now.files.now (files_fit _ _ _ _ _ _ c.requires.fits)).0

pub admit-requires-clause-few : goal.admit-requires-clause-few
admit-requires-clause-few g c = λ _ _. (some_named c.args.words.now.files.now (files_fit _ _ _ _ _ _ c.requires.fits)).1

pub play-requires-clause-opening : goal.play-requires-clause-opening
play-requires-clause-opening g c = λ _ _. its_world c.in_ok-machine.machine c.in_ok-plan.field-0.plan c.in_ok-machine.ensures

pub play-requires-clause-plan : goal.play-requires-clause-plan
play-requires-clause-plan g c = λ _ _.
    of_its_plan c.in_ok-machine.machine c.in_ok-plan.field-0.plan c.in_ok-machine.ensures IsPlan c.files.ensures.kept

pub play-requires-clause-size : goal.play-requires-clause-size
play-requires-clause-size g c = λ _ _.
    ap (λ (p : Plan). p.size)
    (its_plan c.in_ok-machine.machine c.in_ok-plan.field-0.plan c.in_ok-machine.ensures ∙ c.in_ok-plan.ensures.accepted.1.plan)

pub play-requires-clause-named : goal.play-requires-clause-named
play-requires-clause-named g c = λ _ _.
    let made = c.in_ok-plan.field-0.plan in
    of_its_plan c.in_ok-machine.machine made c.in_ok-machine.ensures (λ (p : Plan). All (NamesClient p) c.deref.result.now)
    (subst (All (NamesClient made)) (sym c.deref.ensures.value) c.in_ok-plan.ensures.named)

pub play-requires-clause-apart : goal.play-requires-clause-apart
play-requires-clause-apart g c = λ _ _. names_differ _ _ _ _ _ _ c.requires.fits

pub returns-in_err-plan-clause-answers : goal.returns-in_err-plan-clause-answers
returns-in_err-plan-clause-answers g c =
    let a = g.F.Shelf.shelved c.args.shelf.now in
    let w = c.args.words.now in
    refused_at (command_of w) c.args.history.now a _ c.args.steps.now c.from_residual.result _ c.from_residual.ensures.1 c.in_err-plan.ensures.words
    (λ x at. step_refused w.width w.height w.schedule.now w.frames.now w.log.now (texts w.files.now) _ a c.size_of-size.ensures.size x
    (c.in_err-plan.ensures.input x at)) c.requires.empty c.in_err-plan.ensures.files c.in_err-plan.ensures.behaves

pub returns-in_err-machine-clause-answers : goal.returns-in_err-machine-clause-answers
returns-in_err-machine-clause-answers g c =
    let a = g.F.Shelf.shelved c.args.shelf.now in
    memory_at (command_of c.args.words.now) c.args.history.now a _ c.args.steps.now c.from_residual-in_err-machine.result
    c.from_residual-in_err-machine.ensures.1 c.requires.empty c.admit.ensures.files (went_through c.in_ok-plan.field-0 a _ c.in_ok-plan.ensures.behaves)

pub returns-in_err-play-clause-answers : goal.returns-in_err-play-clause-answers
returns-in_err-play-clause-answers g c =
    let a = g.F.Shelf.shelved c.args.shelf.now in
    let b = g.F.Shelf.shelved c.admit.new.shelf in
    let w = c.args.words.now in
    let asked = command_of w in
    let made = c.in_ok-plan.field-0 in
    let got = step_given w.width w.height w.schedule.now w.frames.now w.log.now (texts w.files.now) _ a c.size_of-size.ensures.size made.plan
    made.events.items c.in_ok-plan.ensures.accepted in
    let makes = made_of asked got.0 made.plan _ c.deref.result.now c.in_ok-machine.machine c.in_ok-machine.ensures c.deref.ensures.value got.2 in
    cut_behind asked c.play.new.history a b (g.F.Shelf.shelved c.play.new.shelf) c.args.steps.now c.play.new.steps
    (went_through made a b c.in_ok-plan.ensures.behaves) c.admit.ensures.files got.0 got.1 c.in_ok-machine.machine.plan makes.0
    c.in_err-play.field-0.0 c.from_residual-in_err-play.result c.from_residual-in_err-play.ensures.1
    (made_front asked got.0 _ _ makes _ c.in_err-play.ensures.front) c.in_err-play.ensures.begun.begun c.in_err-play.ensures.begun.others
    c.in_err-play.ensures.behaves

pub returns-in_err-done_line-clause-answers : goal.returns-in_err-done_line-clause-answers
returns-in_err-done_line-clause-answers g c =
    let a = g.F.Shelf.shelved c.args.shelf.now in
    let b = g.F.Shelf.shelved c.admit.new.shelf in
    let d = g.F.Shelf.shelved c.play.new.shelf in
    let w = c.args.words.now in
    let asked = command_of w in
    let made = c.in_ok-plan.field-0 in
    let got = step_given w.width w.height w.schedule.now w.frames.now w.log.now (texts w.files.now) _ a c.size_of-size.ensures.size made.plan
    made.events.items c.in_ok-plan.ensures.accepted in
    let makes = made_of asked got.0 made.plan _ c.deref.result.now c.in_ok-machine.machine c.in_ok-machine.ensures c.deref.ensures.value got.2 in
    let p = c.in_ok-machine.machine.plan in
    let h = c.play.new.history in
    memory_behind asked h a b d c.args.steps.now c.play.new.steps (went_through made a b c.in_ok-plan.ensures.behaves) c.admit.ensures.files
    got.0 got.1 p makes.0 c.from_residual-in_err-done_line.result c.from_residual-in_err-done_line.ensures.1
    (made_front asked got.0 p _ makes h (all_played p _ h c.in_ok-play.ensures.history)) (all_begun (outputs_of asked p h) b d c.in_ok-play.ensures.whole.whole)
    c.in_ok-play.ensures.whole.others (ran_one tt b d c.in_ok-play.ensures.behaves)

pub returns-clause-answers : goal.returns-clause-answers
returns-clause-answers g c =
    let a = g.F.Shelf.shelved c.args.shelf.now in
    let b = g.F.Shelf.shelved c.admit.new.shelf in
    let d = g.F.Shelf.shelved c.play.new.shelf in
    let w = c.args.words.now in
    let asked = command_of w in
    let made = c.in_ok-plan.field-0 in
    let got = step_given w.width w.height w.schedule.now w.frames.now w.log.now (texts w.files.now) _ a c.size_of-size.ensures.size made.plan
    made.events.items c.in_ok-plan.ensures.accepted in
    let makes = made_of asked got.0 made.plan _ c.deref.result.now c.in_ok-machine.machine c.in_ok-machine.ensures c.deref.ensures.value got.2 in
    let p = c.in_ok-machine.machine.plan in
    let h = c.play.new.history in
    done_behind asked h a b d c.args.steps.now c.play.new.steps (went_through made a b c.in_ok-plan.ensures.behaves) c.admit.ensures.files
    got.0 got.1 p makes.0 _ (of_its_plan c.in_ok-machine.machine made.plan c.in_ok-machine.ensures IsPlan c.files.ensures.kept)
    c.in_ok-play.ensures.history.legal (omega arith) (made_history asked got.0 p _ makes h c.in_ok-play.ensures.history)
    c.in_ok-play.ensures.whole.whole c.in_ok-play.ensures.counted (
      c.in_ok-done_line.ensures ∙ (ap (λ (xs : List Entry). end_line asked p xs) c.as_slice.ensures ∙ ap (λ (x : Plan). end_line asked x h)
          makes.0),
      refl,
    ) (omega arith) c.in_ok-play.ensures.whole.others (ran_one tt b d c.in_ok-play.ensures.behaves)

pub returns-in_err-plan-clause-gated : goal.returns-in_err-plan-clause-gated
returns-in_err-plan-clause-gated g c = none_gated (g.G.Gate.told c.args.gate.now) c.args.history.now c.requires.empty

pub returns-in_err-machine-clause-gated : goal.returns-in_err-machine-clause-gated
returns-in_err-machine-clause-gated g c = none_gated (g.G.Gate.told c.args.gate.now) c.args.history.now c.requires.empty

pub returns-in_err-play-clause-gated : goal.returns-in_err-play-clause-gated
returns-in_err-play-clause-gated g c = c.play.ensures.gated

pub returns-in_err-done_line-clause-gated : goal.returns-in_err-done_line-clause-gated
returns-in_err-done_line-clause-gated g c = c.play.ensures.gated

pub returns-clause-gated : goal.returns-clause-gated
returns-clause-gated g c = c.play.ensures.gated
