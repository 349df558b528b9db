use denote.Param.Send.{sendable}
use Rattle.std.proofs.Common.{◌∙◌, List, refl, sym, ap, subst, arith}
use Rattle.vz_outside.proofs.Calls.{ran_one}
use Rattle.vz_geom.specs.declared.Size.{Size}
use Rattle.viz_run.specs.Read.{texts}
use Rattle.viz_run.specs.Refusals.{plan_read}
use Rattle.vz_manager.proofs.Crossing.{manager_send}
use Rattle.viz_run.specs.Ends.{outputs_of}
use Rattle.vz_rules.specs.Plan.{Plan, IsPlan, message_counts}
use Rattle.vz_rules.specs.Step.{Legal}
use Rattle.vz_threads.specs.Courses.{IsRun}
use Rattle.vz_rules.specs.declared.entry.Entry.{Entry}
use Rattle.viz_run.specs.Lines.{end_line}
use Rattle.viz_run.specs.Ran.{command_of, counts_of}
use Rattle.viz_run.proofs.Admitting.{misses_left}
use Rattle.viz_run.proofs.Exits.{memory_at, refused_at, cut_behind, memory_behind, done_behind}
use Rattle.viz_run.proofs.Files_given.{files_given, files_refused}
use Rattle.viz_run.proofs.Fitting.{some_named, run_buffers_fit, run_names_differ, run_sides_fit, run_files_fit}
use Rattle.viz_run.proofs.Performing.{behaves_for}
use Rattle.viz_run.proofs.Opened.{its_plan, its_world, of_its_plan}
use Rattle.viz_run.proofs.Stepping.{all_begun, went_through}
use Rattle.viz_run.proofs.Gating.{none_gated}
use Rattle.viz_run.proofs.running.run.Goals as goal

pub size_of-size-requires : goal.size_of-size-requires
size_of-size-requires g c = run_sides_fit _ _ _ _ _ _ _ _ _ c.requires.fits

pub read_plan-requires-clause-some : goal.read_plan-requires-clause-some
read_plan-requires-clause-some g c = λ _ _. (some_named c.args.words.now.files.now (run_files_fit _ _ _ _ _ _ _ _ _ c.requires.fits)).0

pub read_plan-requires-clause-few : goal.read_plan-requires-clause-few
read_plan-requires-clause-few g c = λ _ _. (some_named c.args.words.now.files.now (run_files_fit _ _ _ _ _ _ _ _ _ c.requires.fits)).1

pub play_run-requires-send-M : goal.play_run-requires-send-M
play_run-requires-send-M g c κs within = search (manager_send, sendable) depth 20

pub play_run-requires-clause-opening : goal.play_run-requires-clause-opening
play_run-requires-clause-opening g c = λ _ _. its_world c.in_ok-machine.machine c.in_ok-plan.plan c.in_ok-machine.ensures

pub play_run-requires-clause-plan : goal.play_run-requires-clause-plan
play_run-requires-clause-plan g c =
    λ _ _. of_its_plan c.in_ok-machine.machine c.in_ok-plan.plan c.in_ok-machine.ensures IsPlan c.files.ensures.kept

pub play_run-requires-clause-counts : goal.play_run-requires-clause-counts
play_run-requires-clause-counts g c =
    let opened = its_plan c.in_ok-machine.machine c.in_ok-plan.plan c.in_ok-machine.ensures in
    λ _ _. c.deref.ensures.value
    ∙ (c.in_ok-counts.ensures.counts ∙ (ap counts_of c.files.ensures.value ∙ sym (ap (λ (p : Plan). message_counts p) opened)))

pub play_run-requires-clause-size : goal.play_run-requires-clause-size
play_run-requires-clause-size g c =
    let opened = its_plan c.in_ok-machine.machine c.in_ok-plan.plan c.in_ok-machine.ensures in
    λ _ _. ap (λ (p : Plan). p.size) (opened ∙ c.in_ok-plan.ensures.planned.1.plan) ∙ c.size_of-size.ensures.size

pub play_run-requires-clause-apart : goal.play_run-requires-clause-apart
play_run-requires-clause-apart g c = λ _ _. run_names_differ _ _ _ _ _ _ _ _ _ c.requires.fits

pub returns-in_err-plan-clause-answers : goal.returns-in_err-plan-clause-answers
returns-in_err-plan-clause-answers g c =
    let a = g.F.Shelf.shelved c.args.shelf.now in
    let w = c.args.words.now in
    refused_at (command_of w) c.args.history.now a _ c.args.steps.now c.from_residual.result _ c.from_residual.ensures.1 c.in_err-plan.ensures.words
    (λ x at. files_refused (command_of w) (texts w.files.now) a (λ files read. record { files = read; schedules = tt; logs = tt; frames = tt }) x
    (c.in_err-plan.ensures.input x at)) c.requires.empty c.in_err-plan.ensures.files
    (behaves_for _ a _ (λ missing. misses_left (texts w.files.now) _ a missing) c.in_err-plan.ensures.behaves)

pub returns-in_err-counts-clause-answers : goal.returns-in_err-counts-clause-answers
returns-in_err-counts-clause-answers g c =
    let a = g.F.Shelf.shelved c.args.shelf.now in
    memory_at (command_of c.args.words.now) c.args.history.now a _ c.args.steps.now c.from_residual-in_err-counts.result
    c.from_residual-in_err-counts.ensures.1 c.requires.empty c.read_plan.ensures.files (went_through c.in_ok-plan.plan a _ c.in_ok-plan.ensures.behaves)

pub returns-in_err-machine-clause-answers : goal.returns-in_err-machine-clause-answers
returns-in_err-machine-clause-answers g c =
    let a = g.F.Shelf.shelved c.args.shelf.now in
    memory_at (command_of c.args.words.now) c.args.history.now a _ c.args.steps.now c.from_residual-in_err-machine.result
    c.from_residual-in_err-machine.ensures.1 c.requires.empty c.read_plan.ensures.files (went_through c.in_ok-plan.plan a _ c.in_ok-plan.ensures.behaves)

pub returns-in_err-play_run-clause-answers : goal.returns-in_err-play_run-clause-answers
returns-in_err-play_run-clause-answers g c =
    let a = g.F.Shelf.shelved c.args.shelf.now in
    let b = g.F.Shelf.shelved c.read_plan.new.shelf in
    let asked = command_of c.args.words.now in
    let made = c.in_ok-plan.plan in
    let got = files_given asked (texts c.args.words.now.files.now) a (λ files read. record { files = read; schedules = tt; logs = tt; frames = tt })
    c.size_of-size.result made (λ files. ap (λ (z : Size). plan_read z files) c.size_of-size.ensures.size) c.in_ok-plan.ensures.planned in
    let makes = its_plan c.in_ok-machine.machine made c.in_ok-machine.ensures ∙ got.2 in
    cut_behind asked c.play_run.new.history a b (g.F.Shelf.shelved c.play_run.new.shelf) c.args.steps.now c.play_run.new.steps
    (went_through made a b c.in_ok-plan.ensures.behaves) c.read_plan.ensures.files got.0 got.1 c.in_ok-machine.machine.plan makes
    c.in_err-play_run.field-0.0 c.from_residual-in_err-play_run.result c.from_residual-in_err-play_run.ensures.1
    (subst (λ (x : Plan). Legal x c.play_run.new.history) makes c.in_err-play_run.ensures.legal) c.in_err-play_run.ensures.begun.begun
    c.in_err-play_run.ensures.begun.others c.in_err-play_run.ensures.behaves

pub returns-in_err-done_line-clause-answers : goal.returns-in_err-done_line-clause-answers
returns-in_err-done_line-clause-answers g c =
    let a = g.F.Shelf.shelved c.args.shelf.now in
    let b = g.F.Shelf.shelved c.read_plan.new.shelf in
    let d = g.F.Shelf.shelved c.play_run.new.shelf in
    let asked = command_of c.args.words.now in
    let made = c.in_ok-plan.plan in
    let got = files_given asked (texts c.args.words.now.files.now) a (λ files read. record { files = read; schedules = tt; logs = tt; frames = tt })
    c.size_of-size.result made (λ files. ap (λ (z : Size). plan_read z files) c.size_of-size.ensures.size) c.in_ok-plan.ensures.planned in
    let makes = its_plan c.in_ok-machine.machine made c.in_ok-machine.ensures ∙ got.2 in
    let p = c.in_ok-machine.machine.plan in
    let h = c.play_run.new.history in
    memory_behind asked h a b d c.args.steps.now c.play_run.new.steps (went_through made a b c.in_ok-plan.ensures.behaves) c.read_plan.ensures.files
    got.0 got.1 p makes c.from_residual-in_err-done_line.result c.from_residual-in_err-done_line.ensures.1
    (subst (λ (x : Plan). Legal x h) makes c.in_ok-play_run.ensures.legal) (all_begun (outputs_of asked p h) b d c.in_ok-play_run.ensures.whole.whole)
    c.in_ok-play_run.ensures.whole.others (ran_one tt b d c.in_ok-play_run.ensures.behaves)

pub returns-clause-answers : goal.returns-clause-answers
returns-clause-answers g c =
    let a = g.F.Shelf.shelved c.args.shelf.now in
    let b = g.F.Shelf.shelved c.read_plan.new.shelf in
    let d = g.F.Shelf.shelved c.play_run.new.shelf in
    let w = c.args.words.now in
    let asked = command_of w in
    let made = c.in_ok-plan.plan in
    let got = files_given asked (texts w.files.now) a (λ files read. record { files = read; schedules = tt; logs = tt; frames = tt })
    c.size_of-size.result made (λ files. ap (λ (z : Size). plan_read z files) c.size_of-size.ensures.size) c.in_ok-plan.ensures.planned in
    let makes = its_plan c.in_ok-machine.machine made c.in_ok-machine.ensures ∙ got.2 in
    let p = c.in_ok-machine.machine.plan in
    let h = c.play_run.new.history in
    done_behind asked h a b d c.args.steps.now c.play_run.new.steps (went_through made a b c.in_ok-plan.ensures.behaves) c.read_plan.ensures.files
    got.0 got.1 p makes _ (of_its_plan c.in_ok-machine.machine made c.in_ok-machine.ensures IsPlan c.files.ensures.kept)
    c.in_ok-play_run.ensures.run.legal (run_buffers_fit _ _ _ _ _ _ _ _ _ c.requires.fits).0
    (subst (λ (x : Plan). IsRun x w.ticks w.paced h) makes c.in_ok-play_run.ensures.run) c.in_ok-play_run.ensures.whole.whole c.in_ok-play_run.ensures.counted (
      c.in_ok-done_line.ensures ∙ (ap (λ (xs : List Entry). end_line asked p xs) c.as_slice.ensures ∙ ap (λ (x : Plan). end_line asked x h)
          makes),
      refl,
    ) (omega arith) c.in_ok-play_run.ensures.whole.others (ran_one tt b d c.in_ok-play_run.ensures.behaves)

pub returns-in_err-plan-clause-gated : goal.returns-in_err-plan-clause-gated
returns-in_err-plan-clause-gated g c = none_gated (g.G.Gate.told c.args.gate.now) c.args.history.now c.requires.empty

pub returns-in_err-counts-clause-gated : goal.returns-in_err-counts-clause-gated
returns-in_err-counts-clause-gated g c = none_gated (g.G.Gate.told c.args.gate.now) c.args.history.now c.requires.empty

pub returns-in_err-machine-clause-gated : goal.returns-in_err-machine-clause-gated
returns-in_err-machine-clause-gated g c = none_gated (g.G.Gate.told c.args.gate.now) c.args.history.now c.requires.empty

pub returns-in_err-play_run-clause-gated : goal.returns-in_err-play_run-clause-gated
returns-in_err-play_run-clause-gated g c = c.play_run.ensures.gated

pub returns-in_err-done_line-clause-gated : goal.returns-in_err-done_line-clause-gated
returns-in_err-done_line-clause-gated g c = c.play_run.ensures.gated

pub returns-clause-gated : goal.returns-clause-gated
returns-clause-gated g c = c.play_run.ensures.gated
