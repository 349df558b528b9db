use denote.Param.Send.{sendable}
use Rattle.std.proofs.Common.{◌∙◌, List, length, refl, sym, ap, subst, arith}
use Rattle.vz_callers.specs.Turns.{IsTurns}
use Rattle.vz_geom.specs.declared.Size.{Size}
use Rattle.viz_run.specs.Read.{texts}
use Rattle.viz_run.specs.Refusals.{plan_read}
use Rattle.vz_manager.proofs.Crossing.{manager_send}
use Rattle.vz_outside.proofs.Calls.{ran_none}
use Rattle.vz_rules.specs.Plan.{Plan, IsPlan, message_counts}
use Rattle.vz_rules.specs.Step.{Legal}
use Rattle.vz_rules.specs.declared.entry.Entry.{Entry}
use Rattle.viz_run.specs.Lines.{done_text, drawn_count}
use Rattle.viz_run.specs.Ran.{counts_of}
use Rattle.viz_run.specs.Turned.{command_of}
use Rattle.viz_run.proofs.Admitting.{misses_left}
use Rattle.viz_run.proofs.Exits.{memory_at, refused_at, memory_behind, done_behind, none_kept_out}
use Rattle.viz_run.proofs.Files_given.{files_given, files_refused}
use Rattle.viz_run.proofs.Fitting.{some_named, turns_sides_fit, turns_files_fit}
use Rattle.viz_run.proofs.Opened.{its_plan, its_world, of_its_plan}
use Rattle.viz_run.proofs.Performing.{behaves_for}
use Rattle.viz_run.proofs.Stepping.{went_through}
use Rattle.viz_run.proofs.Gating.{none_gated, turns_gated}
use Rattle.viz_run.proofs.turns.turns.Goals as goal

pub size_of-size-requires : goal.size_of-size-requires
size_of-size-requires g c = turns_sides_fit _ _ _ _ c.requires.fits

pub read_plan-requires-clause-some : goal.read_plan-requires-clause-some
read_plan-requires-clause-some g c = λ _ _. (some_named c.args.words.now.files.now (turns_files_fit _ _ _ _ c.requires.fits)).0

pub read_plan-requires-clause-few : goal.read_plan-requires-clause-few
read_plan-requires-clause-few g c = λ _ _. (some_named c.args.words.now.files.now (turns_files_fit _ _ _ _ c.requires.fits)).1

pub play_turns-requires-send-M : goal.play_turns-requires-send-M
play_turns-requires-send-M g c κs within = search (manager_send, sendable) depth 20

pub play_turns-requires-clause-opening : goal.play_turns-requires-clause-opening
play_turns-requires-clause-opening g c = λ _ _. its_world c.in_ok-machine.machine c.in_ok-plan.plan c.in_ok-machine.ensures

pub play_turns-requires-clause-files : goal.play_turns-requires-clause-files
play_turns-requires-clause-files g c =
    λ _ _. (of_its_plan c.in_ok-machine.machine c.in_ok-plan.plan c.in_ok-machine.ensures IsPlan c.files.ensures.kept).few_files

pub play_turns-requires-clause-counts : goal.play_turns-requires-clause-counts
play_turns-requires-clause-counts g c =
    let opened = its_plan c.in_ok-machine.machine c.in_ok-plan.plan c.in_ok-machine.ensures in
    λ _ _. c.deref.ensures.value
    ∙ (c.in_ok-counts.ensures.counts ∙ (ap counts_of c.files.ensures.value ∙ sym (ap (λ (p : Plan). message_counts p) opened)))

pub returns-in_err-plan-clause-answers : goal.returns-in_err-plan-clause-answers
returns-in_err-plan-clause-answers g c = λ steps.
    let a = g.F.Shelf.shelved c.args.shelf.now in
    let w = c.args.words.now in
    refused_at (command_of w) c.args.history.now a _ steps c.from_residual.result _ c.from_residual.ensures.1 c.in_err-plan.ensures.words
    (λ x at. files_refused (command_of w) (texts w.files.now) a (λ files read. record { files = read; schedules = tt; logs = tt; frames = tt }) x
    (c.in_err-plan.ensures.input x at)) c.requires.empty c.in_err-plan.ensures.files
    (behaves_for _ a _ (λ missing. misses_left (texts w.files.now) _ a missing) c.in_err-plan.ensures.behaves)

pub returns-in_err-counts-clause-answers : goal.returns-in_err-counts-clause-answers
returns-in_err-counts-clause-answers g c = λ steps.
    let a = g.F.Shelf.shelved c.args.shelf.now in
    memory_at (command_of c.args.words.now) c.args.history.now a _ steps c.from_residual-in_err-counts.result c.from_residual-in_err-counts.ensures.1
    c.requires.empty c.read_plan.ensures.files (went_through c.in_ok-plan.plan a _ c.in_ok-plan.ensures.behaves)

pub returns-in_err-machine-clause-answers : goal.returns-in_err-machine-clause-answers
returns-in_err-machine-clause-answers g c = λ steps.
    let a = g.F.Shelf.shelved c.args.shelf.now in
    memory_at (command_of c.args.words.now) c.args.history.now a _ steps c.from_residual-in_err-machine.result c.from_residual-in_err-machine.ensures.1
    c.requires.empty c.read_plan.ensures.files (went_through c.in_ok-plan.plan a _ c.in_ok-plan.ensures.behaves)

pub returns-in_err-play_turns-clause-answers : goal.returns-in_err-play_turns-clause-answers
returns-in_err-play_turns-clause-answers g c = λ steps.
    let a = g.F.Shelf.shelved c.args.shelf.now in
    let b = g.F.Shelf.shelved c.read_plan.new.shelf in
    let asked = command_of c.args.words.now in
    let made = c.in_ok-plan.plan in
    let got = files_given asked (texts c.args.words.now.files.now) a (λ files read. record { files = read; schedules = tt; logs = tt; frames = tt })
    c.size_of-size.result made (λ files. ap (λ (z : Size). plan_read z files) c.size_of-size.ensures.size) c.in_ok-plan.ensures.planned in
    let makes = its_plan c.in_ok-machine.machine made c.in_ok-machine.ensures ∙ got.2 in
    let h = c.play_turns.new.history in
    memory_behind asked h a b b steps steps (went_through made a b c.in_ok-plan.ensures.behaves) c.read_plan.ensures.files got.0 got.1
    c.in_ok-machine.machine.plan makes c.from_residual-in_err-play_turns.result c.from_residual-in_err-play_turns.ensures.1
    (subst (λ (x : Plan). Legal x h) makes c.play_turns.ensures.legal) tt (none_kept_out b) (ran_none b)

pub returns-in_err-done_line-clause-answers : goal.returns-in_err-done_line-clause-answers
returns-in_err-done_line-clause-answers g c = λ steps.
    let a = g.F.Shelf.shelved c.args.shelf.now in
    let b = g.F.Shelf.shelved c.read_plan.new.shelf in
    let asked = command_of c.args.words.now in
    let made = c.in_ok-plan.plan in
    let got = files_given asked (texts c.args.words.now.files.now) a (λ files read. record { files = read; schedules = tt; logs = tt; frames = tt })
    c.size_of-size.result made (λ files. ap (λ (z : Size). plan_read z files) c.size_of-size.ensures.size) c.in_ok-plan.ensures.planned in
    let makes = its_plan c.in_ok-machine.machine made c.in_ok-machine.ensures ∙ got.2 in
    let h = c.play_turns.new.history in
    memory_behind asked h a b b steps steps (went_through made a b c.in_ok-plan.ensures.behaves) c.read_plan.ensures.files got.0 got.1
    c.in_ok-machine.machine.plan makes c.from_residual-in_err-done_line.result c.from_residual-in_err-done_line.ensures.1
    (subst (λ (x : Plan). Legal x h) makes c.play_turns.ensures.legal) tt (none_kept_out b) (ran_none b)

pub returns-clause-answers : goal.returns-clause-answers
returns-clause-answers g c = λ steps.
    let a = g.F.Shelf.shelved c.args.shelf.now in
    let b = g.F.Shelf.shelved c.read_plan.new.shelf in
    let w = c.args.words.now in
    let asked = command_of w in
    let made = c.in_ok-plan.plan in
    let got = files_given asked (texts w.files.now) a (λ files read. record { files = read; schedules = tt; logs = tt; frames = tt })
    c.size_of-size.result made (λ files. ap (λ (z : Size). plan_read z files) c.size_of-size.ensures.size) c.in_ok-plan.ensures.planned in
    let makes = its_plan c.in_ok-machine.machine made c.in_ok-machine.ensures ∙ got.2 in
    let h = c.play_turns.new.history in
    done_behind asked h a b b steps steps (went_through made a b c.in_ok-plan.ensures.behaves) c.read_plan.ensures.files got.0 got.1
    c.in_ok-machine.machine.plan makes _ (of_its_plan c.in_ok-machine.machine made c.in_ok-machine.ensures IsPlan c.files.ensures.kept)
    c.in_ok-play_turns.ensures.turns.legal (omega arith) (subst (λ (x : Plan). IsTurns x w.ticks h) makes c.in_ok-play_turns.ensures.turns) tt (omega arith)
    (c.in_ok-done_line.ensures ∙ ap (λ (xs : List Entry). done_text (length xs) (drawn_count xs)) c.as_slice.ensures, refl) (omega arith)
    (none_kept_out b) (ran_none b)

pub returns-in_err-plan-clause-gated : goal.returns-in_err-plan-clause-gated
returns-in_err-plan-clause-gated g c = none_gated (g.G.Gate.told c.args.gate.now) c.args.history.now c.requires.empty

pub returns-in_err-counts-clause-gated : goal.returns-in_err-counts-clause-gated
returns-in_err-counts-clause-gated g c = none_gated (g.G.Gate.told c.args.gate.now) c.args.history.now c.requires.empty

pub returns-in_err-machine-clause-gated : goal.returns-in_err-machine-clause-gated
returns-in_err-machine-clause-gated g c = none_gated (g.G.Gate.told c.args.gate.now) c.args.history.now c.requires.empty

pub returns-in_err-play_turns-clause-gated : goal.returns-in_err-play_turns-clause-gated
returns-in_err-play_turns-clause-gated g c = turns_gated (g.G.Gate.told c.args.gate.now) c.in_ok-machine.machine.plan c.play_turns.new.history c.play_turns.ensures.legal c.play_turns.ensures.gated

pub returns-in_err-done_line-clause-gated : goal.returns-in_err-done_line-clause-gated
returns-in_err-done_line-clause-gated g c = turns_gated (g.G.Gate.told c.args.gate.now) c.in_ok-machine.machine.plan c.play_turns.new.history c.play_turns.ensures.legal c.play_turns.ensures.gated

pub returns-clause-gated : goal.returns-clause-gated
returns-clause-gated g c = turns_gated (g.G.Gate.told c.args.gate.now) c.in_ok-machine.machine.plan c.play_turns.new.history c.play_turns.ensures.legal c.play_turns.ensures.gated
