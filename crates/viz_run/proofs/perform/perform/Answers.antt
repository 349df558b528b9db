use Rattle.std.proofs.Common.{rules, inl, refl, arith}
use Rattle.viz_run.proofs.Demo_fits.{planned}
use Rattle.vz_outside.proofs.Behaving.{on_err}
use Rattle.vz_outside.proofs.Calls.{ran_none, ran_one}
use Rattle.vz_outside.specs.declared.shelf.ShelfError.TheVariants as shelf_error
use Rattle.vz_words.specs.Words.{texts}
use Rattle.viz_run.specs.Site.{site}
use Rattle.viz_run.proofs.Exits.{asked_for, cut_at, done_at, refused_words}
use Rattle.viz_run.proofs.Stopping.{stops_at, stops_after}
use Rattle.viz_run.proofs.Performing.{if_ok, memory_no_fault, check_does, gen_does, gen_leaves, demo_does, demo_leaves, demo_few, asked_fits, asks_for, unasked}
use Rattle.viz_run.proofs.Stepping.{holds_at_err}
use Rattle.viz_run.proofs.Gating.{none_gated}
use Rattle.viz_run.proofs.perform.perform.Goals as goal

pub step-requires-clause-fits : goal.step-requires-clause-fits
step-requires-clause-fits g c = λ _ _. asked_fits _ _ (asks_for (texts c.args.words.now) _ _ c.in-Some-Step.field-0-is c.in-Some-Step.ensures.found)

pub returns-in-Some-Step-clause-answers : goal.returns-in-Some-Step-clause-answers
returns-in-Some-Step-clause-answers g c = asked_for (texts c.args.words.now) _ (asks_for (texts c.args.words.now) _ _ c.in-Some-Step.field-0-is c.in-Some-Step.ensures.found) _ _ _ _ c.step.ensures.answers

pub run-requires-clause-fits : goal.run-requires-clause-fits
run-requires-clause-fits g c = λ _ _. asked_fits _ _ (asks_for (texts c.args.words.now) _ _ c.in-Some-Run.field-0-is c.in-Some-Run.ensures.found)

pub returns-in-Some-Run-clause-answers : goal.returns-in-Some-Run-clause-answers
returns-in-Some-Run-clause-answers g c = asked_for (texts c.args.words.now) _ (asks_for (texts c.args.words.now) _ _ c.in-Some-Run.field-0-is c.in-Some-Run.ensures.found) _ _ _ _ c.run.ensures.answers

pub hit-requires-clause-fits : goal.hit-requires-clause-fits
hit-requires-clause-fits g c = λ _ _. asked_fits _ _ (asks_for (texts c.args.words.now) _ _ c.in-Some-Hit.field-0-is c.in-Some-Hit.ensures.found)

pub returns-in-Some-Hit-clause-answers : goal.returns-in-Some-Hit-clause-answers
returns-in-Some-Hit-clause-answers g c = asked_for (texts c.args.words.now) _ (asks_for (texts c.args.words.now) _ _ c.in-Some-Hit.field-0-is c.in-Some-Hit.ensures.found) _ _ _ _ (c.hit.ensures.answers c.args.steps.now)

pub turns-requires-clause-fits : goal.turns-requires-clause-fits
turns-requires-clause-fits g c = λ _ _. asked_fits _ _ (asks_for (texts c.args.words.now) _ _ c.in-Some-Turns.field-0-is c.in-Some-Turns.ensures.found)

pub returns-in-Some-Turns-clause-answers : goal.returns-in-Some-Turns-clause-answers
returns-in-Some-Turns-clause-answers g c = asked_for (texts c.args.words.now) _ (asks_for (texts c.args.words.now) _ _ c.in-Some-Turns.field-0-is c.in-Some-Turns.ensures.found) _ _ _ _ (c.turns.ensures.answers c.args.steps.now)

pub check_log-requires : goal.check_log-requires
check_log-requires g c = (search rules, asked_fits _ _ (asks_for (texts c.args.words.now) _ _ c.in-Some-Check.field-0-is c.in-Some-Check.ensures.found))

pub returns-in-Some-Check-clause-answers : goal.returns-in-Some-Check-clause-answers
returns-in-Some-Check-clause-answers g c =
    let a = g.F.Shelf.shelved c.args.shelf.now in
    let b = g.F.Shelf.shelved c.check_log.new.shelf in
    let h = c.args.history.now in
    let steps = c.args.steps.now in
    let e = c.check_log.ensures in
    asked_for (texts c.args.words.now) _ (asks_for (texts c.args.words.now) _ _ c.in-Some-Check.field-0-is c.in-Some-Check.ensures.found) h (site a steps) (site b steps) c.check_log.result (record {
      done = if_ok c.check_log.result _ _ (λ ended told. check_does _ _ _ _ _ h a b steps _ _ c.requires told.0 told.1 told.2) e.told;
      low = e.low;
      words = e.words;
      input = e.input;
      unbegun = holds_at_err c.check_log.result _ (record { history = c.requires; files = e.files; steps = refl });
      front = on_err c.check_log.result _ (inl (record { history = c.requires; files = e.files; steps = refl }));
      others = λ told name none. e.files told name;
      behaves = e.behaves;
    })

pub make_files-requires : goal.make_files-requires
make_files-requires g c = asked_fits _ _ (asks_for (texts c.args.words.now) _ _ c.in-Some-Gen.field-0-is c.in-Some-Gen.ensures.found)

pub returns-in_ok-make_files-in-Some-Gen-clause-answers : goal.returns-in_ok-make_files-in-Some-Gen-clause-answers
returns-in_ok-make_files-in-Some-Gen-clause-answers g c =
    let made = c.in_ok-make_files-in-Some-Gen.ensures in
    asked_for (texts c.args.words.now) _ (asks_for (texts c.args.words.now) _ _ c.in-Some-Gen.field-0-is c.in-Some-Gen.ensures.found) _ _ _ _
    (done_at _ _ _ _ _ (gen_does _ _ _ _ _ _ _ _ _ c.requires made.whole made.line) (omega arith) made.others (ran_one _ _ _ made.behaves))

pub returns-in_err-make_files-in-Some-Gen-clause-answers : goal.returns-in_err-make_files-in-Some-Gen-clause-answers
returns-in_err-make_files-in-Some-Gen-clause-answers g c =
    let e = c.in_err-make_files-in-Some-Gen.field-0.0 in
    let begun = c.in_err-make_files-in-Some-Gen.ensures in
    asked_for (texts c.args.words.now) _ (asks_for (texts c.args.words.now) _ _ c.in-Some-Gen.field-0-is c.in-Some-Gen.ensures.found) _ _ _ _
    (cut_at _ _ _ _ c.from_residual.result e c.from_residual.ensures.1 (gen_leaves _ _ _ _ _ _ _ _ c.requires begun.begun) begun.others
    (stops_at e c.from_residual.result _ _ _ c.from_residual.ensures.1 (ran_none _) begun.behaves (λ (no : ⊥). absurd no)))

pub demo-requires-clause-few : goal.demo-requires-clause-few
demo-requires-clause-few g c = λ _ _. demo_few (texts c.args.words.now) c.in-Some-Demo.rounds (asks_for (texts c.args.words.now) _ _ c.in-Some-Demo.field-0-is c.in-Some-Demo.ensures.found)

pub returns-in_ok-demo-in-Some-Demo-clause-answers : goal.returns-in_ok-demo-in-Some-Demo-clause-answers
returns-in_ok-demo-in-Some-Demo-clause-answers g c =
    let asks = (asks_for (texts c.args.words.now) _ _ c.in-Some-Demo.field-0-is c.in-Some-Demo.ensures.found) in
    let n = c.in-Some-Demo.rounds in
    let e = c.in_ok-demo-in-Some-Demo.ensures in
    asked_for (texts c.args.words.now) _ asks _ _ _ _
    (done_at _ _ _ _ _ (demo_does n (planned n (demo_few (texts c.args.words.now) n asks)) _ _ _ _ _ e.history e.line e.counted) (omega arith)
    (λ told name none. refl) (ran_none _))

pub returns-in_err-demo-in-Some-Demo-clause-answers : goal.returns-in_err-demo-in-Some-Demo-clause-answers
returns-in_err-demo-in-Some-Demo-clause-answers g c =
    let asks = (asks_for (texts c.args.words.now) _ _ c.in-Some-Demo.field-0-is c.in-Some-Demo.ensures.found) in
    let n = c.in-Some-Demo.rounds in
    let r = c.from_residual-in_err-demo-in-Some-Demo.result in
    let is = c.from_residual-in_err-demo-in-Some-Demo.ensures.1 in
    asked_for (texts c.args.words.now) _ asks _ _ _ _
    (cut_at _ _ _ _ r shelf_error.Memory is (demo_leaves n (planned n (demo_few (texts c.args.words.now) n asks)) _ _ _ _ c.in_err-demo-in-Some-Demo.ensures.front)
    (λ told name none. refl) (stops_after r _ _ (ran_none _) (memory_no_fault r is)))

pub returns-in-None-clause-answers : goal.returns-in-None-clause-answers
returns-in-None-clause-answers g c =
    let a = g.F.Shelf.shelved c.args.shelf.now in
    refused_words (texts c.args.words.now) c.args.history.now a c.args.steps.now (unasked (texts c.args.words.now) c.in-None.ensures.none) c.requires

pub returns-in-Some-Check-clause-gated : goal.returns-in-Some-Check-clause-gated
returns-in-Some-Check-clause-gated g c = none_gated (g.G.Gate.told c.args.gate.now) c.args.history.now c.requires

pub returns-in_ok-make_files-in-Some-Gen-clause-gated : goal.returns-in_ok-make_files-in-Some-Gen-clause-gated
returns-in_ok-make_files-in-Some-Gen-clause-gated g c = none_gated (g.G.Gate.told c.args.gate.now) c.args.history.now c.requires

pub returns-in_err-make_files-in-Some-Gen-clause-gated : goal.returns-in_err-make_files-in-Some-Gen-clause-gated
returns-in_err-make_files-in-Some-Gen-clause-gated g c = none_gated (g.G.Gate.told c.args.gate.now) c.args.history.now c.requires

pub returns-in-None-clause-gated : goal.returns-in-None-clause-gated
returns-in-None-clause-gated g c = none_gated (g.G.Gate.told c.args.gate.now) c.args.history.now c.requires

pub returns-in-Some-Step-clause-gated : goal.returns-in-Some-Step-clause-gated
returns-in-Some-Step-clause-gated g c = c.step.ensures.gated

pub returns-in-Some-Run-clause-gated : goal.returns-in-Some-Run-clause-gated
returns-in-Some-Run-clause-gated g c = c.run.ensures.gated

pub returns-in-Some-Hit-clause-gated : goal.returns-in-Some-Hit-clause-gated
returns-in-Some-Hit-clause-gated g c = c.hit.ensures.gated

pub returns-in-Some-Turns-clause-gated : goal.returns-in-Some-Turns-clause-gated
returns-in-Some-Turns-clause-gated g c = c.turns.ensures.gated

pub returns-in_ok-demo-in-Some-Demo-clause-gated : goal.returns-in_ok-demo-in-Some-Demo-clause-gated
returns-in_ok-demo-in-Some-Demo-clause-gated g c = c.demo.ensures.gated

pub returns-in_err-demo-in-Some-Demo-clause-gated : goal.returns-in_err-demo-in-Some-Demo-clause-gated
returns-in_err-demo-in-Some-Demo-clause-gated g c = c.demo.ensures.gated
