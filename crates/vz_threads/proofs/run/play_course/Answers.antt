use Rattle.std.proofs.Common.{◌≡◌, [], ◌+◌, ◌∙◌, ap, sym, subst, IfOk, OnOk, OnErr}
use Rattle.vz_outside.specs.Shelved.{Appends, AppendsFront}
use Rattle.vz_rules.specs.{Plan.Plan, Plan.IsPlan, Step.Legal, Step.world, Frames.painted, Log.rest_of}
use Rattle.vz_display.specs.Displayed.{display_at}
use Rattle.vz_threads.specs.{Courses.IsRun, Courses.frames_of, Runs.EndsWithTail, Runs.WritesMore, Runs.WritesMoreFront, Tails.AllComeDue}
use Rattle.vz_player.specs.Gated.{AreGated}
use Rattle.vz_player.proofs.Telling.{gated_none, gated_then}
use Rattle.vz_outside.proofs.Calls.{Ran}
use Rattle.vz_threads.specs.Rounds.{Setup}
use Rattle.vz_threads.proofs.Gathered.{legal_first}
use Rattle.vz_threads.proofs.Finished.{is_ready, whole_of, cut_of, comes_due, open_still, run_whole, ok_then, ok_both, err_then, all_written, front_written, others_written, behaves_then, all_counted, ok_ran, cut_behaves}
use Rattle.vz_threads.proofs.run.play_course.Goals as goal

pub returns-in_default-clause-legal : goal.returns-in_default-clause-legal
returns-in_default-clause-legal g c = subst (Legal (g.M.Machine.state c.args.machine).plan) (sym c.requires.empty) (legal_first (g.M.Machine.state c.args.machine).plan)

pub run_chosen-machine-requires-clause-opened : goal.run_chosen-machine-requires-clause-opened
run_chosen-machine-requires-clause-opened g c κs within =
    let k : Setup = record { plan = (g.M.Machine.state c.args.machine).plan; buffers = c.args.course.buffers } in
    (k, is_ready k _ (record { sides = c.requires.plan.sizes; size = c.requires.size; some = c.requires.from; opened = c.requires.open }) c.new-display.ensures.shown, c.in-Ok.ensures.opened)

pub finish_run-requires-clause-plan : goal.finish_run-requires-clause-plan
finish_run-requires-clause-plan g c = λ _ _.
    let k : Setup = record { plan = (g.M.Machine.state c.args.machine).plan; buffers = c.args.course.buffers } in
    subst IsPlan (sym (c.run_chosen-machine.ensures.plan k c.in-Ok.ensures.opened)) c.requires.plan

pub finish_run-requires-clause-legal : goal.finish_run-requires-clause-legal
finish_run-requires-clause-legal g c = λ _ _.
    let k : Setup = record { plan = (g.M.Machine.state c.args.machine).plan; buffers = c.args.course.buffers } in
    let run = c.run_chosen-machine.ensures.run k (is_ready k _ (record { sides = c.requires.plan.sizes; size = c.requires.size; some = c.requires.from; opened = c.requires.open }) c.new-display.ensures.shown) c.in-Ok.ensures.opened in
    subst (λ (p : Plan). Legal p c.run_chosen-machine.result.history.list) (sym (c.run_chosen-machine.ensures.plan k c.in-Ok.ensures.opened)) run.legal

pub finish_run-requires-clause-display : goal.finish_run-requires-clause-display
finish_run-requires-clause-display g c = λ _ _.
    let k : Setup = record { plan = (g.M.Machine.state c.args.machine).plan; buffers = c.args.course.buffers } in
    let run = c.run_chosen-machine.ensures.run k (is_ready k _ (record { sides = c.requires.plan.sizes; size = c.requires.size; some = c.requires.from; opened = c.requires.open }) c.new-display.ensures.shown) c.in-Ok.ensures.opened in
    let e = c.run_chosen-machine.ensures.plan k c.in-Ok.ensures.opened in
    let w = whole_of _ k _ _ _ _ _ _ _ run c.in-Ok-played.is in
    w.shown.display ∙ ap (λ (p : Plan). display_at p c.run_chosen-machine.result.history.list c.args.course.buffers) (sym e)

pub finish_run-requires-clause-due : goal.finish_run-requires-clause-due
finish_run-requires-clause-due g c = λ _ _.
    let k : Setup = record { plan = (g.M.Machine.state c.args.machine).plan; buffers = c.args.course.buffers } in
    let run = c.run_chosen-machine.ensures.run k (is_ready k _ (record { sides = c.requires.plan.sizes; size = c.requires.size; some = c.requires.from; opened = c.requires.open }) c.new-display.ensures.shown) c.in-Ok.ensures.opened in
    let e = c.run_chosen-machine.ensures.plan k c.in-Ok.ensures.opened in
    let w = whole_of _ k _ _ _ _ _ _ _ run c.in-Ok-played.is in
    subst (λ (p : Plan). AllComeDue (world p c.run_chosen-machine.result.history.list)) (sym e) (comes_due k _ _ _ _ _ (record { sides = c.requires.plan.sizes; size = c.requires.size; some = c.requires.from; opened = c.requires.open }) run.legal w c.requires.plan c.requires.rounds)

pub finish_run-requires-clause-size : goal.finish_run-requires-clause-size
finish_run-requires-clause-size g c = λ _ _.
    let k : Setup = record { plan = (g.M.Machine.state c.args.machine).plan; buffers = c.args.course.buffers } in
    ap (λ (p : Plan). p.size) (c.run_chosen-machine.ensures.plan k c.in-Ok.ensures.opened) ∙ c.requires.size

pub finish_run-requires-clause-open : goal.finish_run-requires-clause-open
finish_run-requires-clause-open g c = λ _ _.
    let k : Setup = record { plan = (g.M.Machine.state c.args.machine).plan; buffers = c.args.course.buffers } in
    let run = c.run_chosen-machine.ensures.run k (is_ready k _ (record { sides = c.requires.plan.sizes; size = c.requires.size; some = c.requires.from; opened = c.requires.open }) c.new-display.ensures.shown) c.in-Ok.ensures.opened in
    let e = c.run_chosen-machine.ensures.plan k c.in-Ok.ensures.opened in
    let w = whole_of _ k _ _ _ _ _ _ _ run c.in-Ok-played.is in
    open_still k _ _ _ _ _ (record { sides = c.requires.plan.sizes; size = c.requires.size; some = c.requires.from; opened = c.requires.open }) run.legal w

pub returns-in-Ok-played-clause-run : goal.returns-in-Ok-played-clause-run
returns-in-Ok-played-clause-run g c =
    let k : Setup = record { plan = (g.M.Machine.state c.args.machine).plan; buffers = c.args.course.buffers } in
    let run = c.run_chosen-machine.ensures.run k (is_ready k _ (record { sides = c.requires.plan.sizes; size = c.requires.size; some = c.requires.from; opened = c.requires.open }) c.new-display.ensures.shown) c.in-Ok.ensures.opened in
    let e = c.run_chosen-machine.ensures.plan k c.in-Ok.ensures.opened in
    let w = whole_of _ k _ _ _ _ _ _ _ run c.in-Ok-played.is in
    let good = subst (λ (p : Plan). Legal p c.finish_run.new.history) e c.finish_run.ensures.legal in
    ok_then c.finish_run.result (EndsWithTail k.plan c.run_chosen-machine.result.history.list c.finish_run.new.history) (IsRun k.plan c.args.course.rounds c.args.course.paced c.finish_run.new.history)
    (subst (λ (p : Plan). OnOk c.finish_run.result (EndsWithTail p c.run_chosen-machine.result.history.list c.finish_run.new.history)) e c.finish_run.ensures.tail)
    (λ t. run_whole k _ _ _ _ _ (record { sides = c.requires.plan.sizes; size = c.requires.size; some = c.requires.from; opened = c.requires.open }) run.legal w c.finish_run.new.history good t)

pub returns-in-Ok-played-clause-rest : goal.returns-in-Ok-played-clause-rest
returns-in-Ok-played-clause-rest g c =
    let k : Setup = record { plan = (g.M.Machine.state c.args.machine).plan; buffers = c.args.course.buffers } in
    let run = c.run_chosen-machine.ensures.run k (is_ready k _ (record { sides = c.requires.plan.sizes; size = c.requires.size; some = c.requires.from; opened = c.requires.open }) c.new-display.ensures.shown) c.in-Ok.ensures.opened in
    let e = c.run_chosen-machine.ensures.plan k c.in-Ok.ensures.opened in
    subst (λ (p : Plan). IfOk c.finish_run.result (λ rest. rest ≡ rest_of p c.finish_run.new.history)) e c.finish_run.ensures.rest

pub returns-in-Ok-played-clause-written : goal.returns-in-Ok-played-clause-written
returns-in-Ok-played-clause-written g c =
    let k : Setup = record { plan = (g.M.Machine.state c.args.machine).plan; buffers = c.args.course.buffers } in
    let run = c.run_chosen-machine.ensures.run k (is_ready k _ (record { sides = c.requires.plan.sizes; size = c.requires.size; some = c.requires.from; opened = c.requires.open }) c.new-display.ensures.shown) c.in-Ok.ensures.opened in
    let e = c.run_chosen-machine.ensures.plan k c.in-Ok.ensures.opened in
    let w = whole_of _ k _ _ _ _ _ _ _ run c.in-Ok-played.is in
    (ok_both c.finish_run.result (Ran (g.F.Shelf.shelved c.run_chosen-machine.new.shelf) (g.F.Shelf.shelved c.finish_run.new.shelf)) (WritesMore k.plan k.buffers ((g.F.Shelf.shelved c.run_chosen-machine.new.shelf).name c.args.file.slot) c.run_chosen-machine.result.history.list c.finish_run.new.history (g.F.Shelf.shelved c.run_chosen-machine.new.shelf) (g.F.Shelf.shelved c.finish_run.new.shelf)) (Appends (frames_of k.plan c.finish_run.new.history k.buffers) ((g.F.Shelf.shelved c.args.shelf.now).name c.args.file.slot) (g.F.Shelf.shelved c.args.shelf.now) (g.F.Shelf.shelved c.finish_run.new.shelf))
    (ok_ran c.finish_run.result (g.F.Shelf.shelved c.run_chosen-machine.new.shelf) (g.F.Shelf.shelved c.finish_run.new.shelf) c.finish_run.ensures.behaves)
    (subst (λ (p : Plan). OnOk c.finish_run.result (WritesMore p k.buffers ((g.F.Shelf.shelved c.run_chosen-machine.new.shelf).name c.args.file.slot) c.run_chosen-machine.result.history.list c.finish_run.new.history (g.F.Shelf.shelved c.run_chosen-machine.new.shelf) (g.F.Shelf.shelved c.finish_run.new.shelf))) e c.finish_run.ensures.written)
    (λ ran m. all_written k _ _ _ _ _ (record { sides = c.requires.plan.sizes; size = c.requires.size; some = c.requires.from; opened = c.requires.open }) run.legal w c.finish_run.new.history (g.F.Shelf.shelved c.finish_run.new.shelf) ran c.finish_run.ensures.others m))

pub returns-in-Ok-played-clause-counted : goal.returns-in-Ok-played-clause-counted
returns-in-Ok-played-clause-counted g c =
    let k : Setup = record { plan = (g.M.Machine.state c.args.machine).plan; buffers = c.args.course.buffers } in
    let run = c.run_chosen-machine.ensures.run k (is_ready k _ (record { sides = c.requires.plan.sizes; size = c.requires.size; some = c.requires.from; opened = c.requires.open }) c.new-display.ensures.shown) c.in-Ok.ensures.opened in
    let e = c.run_chosen-machine.ensures.plan k c.in-Ok.ensures.opened in
    let w = whole_of _ k _ _ _ _ _ _ _ run c.in-Ok-played.is in
    ok_then c.finish_run.result (c.finish_run.new.steps + painted k.plan c.run_chosen-machine.result.history.list k.buffers ≡ c.run_chosen-machine.new.steps + painted k.plan c.finish_run.new.history k.buffers) (c.finish_run.new.steps ≡ c.args.steps.now + painted k.plan c.finish_run.new.history k.buffers)
    (subst (λ (p : Plan). OnOk c.finish_run.result (c.finish_run.new.steps + painted p c.run_chosen-machine.result.history.list k.buffers ≡ c.run_chosen-machine.new.steps + painted p c.finish_run.new.history k.buffers)) e c.finish_run.ensures.counted)
    (λ is. all_counted k _ _ _ _ _ (record { sides = c.requires.plan.sizes; size = c.requires.size; some = c.requires.from; opened = c.requires.open }) run.legal w c.finish_run.new.history c.finish_run.new.steps is)

pub returns-in-Ok-played-clause-legal : goal.returns-in-Ok-played-clause-legal
returns-in-Ok-played-clause-legal g c =
    let k : Setup = record { plan = (g.M.Machine.state c.args.machine).plan; buffers = c.args.course.buffers } in
    let run = c.run_chosen-machine.ensures.run k (is_ready k _ (record { sides = c.requires.plan.sizes; size = c.requires.size; some = c.requires.from; opened = c.requires.open }) c.new-display.ensures.shown) c.in-Ok.ensures.opened in
    let e = c.run_chosen-machine.ensures.plan k c.in-Ok.ensures.opened in
    subst (λ (p : Plan). Legal p c.finish_run.new.history) e c.finish_run.ensures.legal

pub returns-in-Ok-played-clause-begun : goal.returns-in-Ok-played-clause-begun
returns-in-Ok-played-clause-begun g c =
    let k : Setup = record { plan = (g.M.Machine.state c.args.machine).plan; buffers = c.args.course.buffers } in
    let run = c.run_chosen-machine.ensures.run k (is_ready k _ (record { sides = c.requires.plan.sizes; size = c.requires.size; some = c.requires.from; opened = c.requires.open }) c.new-display.ensures.shown) c.in-Ok.ensures.opened in
    let e = c.run_chosen-machine.ensures.plan k c.in-Ok.ensures.opened in
    let w = whole_of _ k _ _ _ _ _ _ _ run c.in-Ok-played.is in
    (err_then c.finish_run.result (WritesMoreFront k.plan k.buffers ((g.F.Shelf.shelved c.run_chosen-machine.new.shelf).name c.args.file.slot) c.run_chosen-machine.result.history.list c.finish_run.new.history (g.F.Shelf.shelved c.run_chosen-machine.new.shelf) (g.F.Shelf.shelved c.finish_run.new.shelf)) (AppendsFront (frames_of k.plan c.finish_run.new.history k.buffers) ((g.F.Shelf.shelved c.args.shelf.now).name c.args.file.slot) (g.F.Shelf.shelved c.args.shelf.now) (g.F.Shelf.shelved c.finish_run.new.shelf))
    (subst (λ (p : Plan). OnErr c.finish_run.result (WritesMoreFront p k.buffers ((g.F.Shelf.shelved c.run_chosen-machine.new.shelf).name c.args.file.slot) c.run_chosen-machine.result.history.list c.finish_run.new.history (g.F.Shelf.shelved c.run_chosen-machine.new.shelf) (g.F.Shelf.shelved c.finish_run.new.shelf))) e c.finish_run.ensures.begun)
    (λ m. front_written k _ _ _ _ _ (record { sides = c.requires.plan.sizes; size = c.requires.size; some = c.requires.from; opened = c.requires.open }) run.legal w c.finish_run.new.history (g.F.Shelf.shelved c.finish_run.new.shelf) m))

pub returns-in-Ok-played-clause-others : goal.returns-in-Ok-played-clause-others
returns-in-Ok-played-clause-others g c =
    let k : Setup = record { plan = (g.M.Machine.state c.args.machine).plan; buffers = c.args.course.buffers } in
    let run = c.run_chosen-machine.ensures.run k (is_ready k _ (record { sides = c.requires.plan.sizes; size = c.requires.size; some = c.requires.from; opened = c.requires.open }) c.new-display.ensures.shown) c.in-Ok.ensures.opened in
    let e = c.run_chosen-machine.ensures.plan k c.in-Ok.ensures.opened in
    let w = whole_of _ k _ _ _ _ _ _ _ run c.in-Ok-played.is in
    (others_written k _ _ _ _ _ (record { sides = c.requires.plan.sizes; size = c.requires.size; some = c.requires.from; opened = c.requires.open }) run.legal w (g.F.Shelf.shelved c.finish_run.new.shelf) c.finish_run.ensures.others)

pub returns-in-Ok-played-clause-behaves : goal.returns-in-Ok-played-clause-behaves
returns-in-Ok-played-clause-behaves g c =
    let k : Setup = record { plan = (g.M.Machine.state c.args.machine).plan; buffers = c.args.course.buffers } in
    let run = c.run_chosen-machine.ensures.run k (is_ready k _ (record { sides = c.requires.plan.sizes; size = c.requires.size; some = c.requires.from; opened = c.requires.open }) c.new-display.ensures.shown) c.in-Ok.ensures.opened in
    let e = c.run_chosen-machine.ensures.plan k c.in-Ok.ensures.opened in
    let w = whole_of _ k _ _ _ _ _ _ _ run c.in-Ok-played.is in
    (behaves_then k _ _ _ _ _ (record { sides = c.requires.plan.sizes; size = c.requires.size; some = c.requires.from; opened = c.requires.open }) run.legal w c.finish_run.result (g.F.Shelf.shelved c.finish_run.new.shelf) c.finish_run.ensures.behaves)

pub returns-in-Err-clause-legal : goal.returns-in-Err-clause-legal
returns-in-Err-clause-legal g c =
    let k : Setup = record { plan = (g.M.Machine.state c.args.machine).plan; buffers = c.args.course.buffers } in
    let run = c.run_chosen-machine.ensures.run k (is_ready k _ (record { sides = c.requires.plan.sizes; size = c.requires.size; some = c.requires.from; opened = c.requires.open }) c.new-display.ensures.shown) c.in-Ok.ensures.opened in
    subst (Legal k.plan) (sym c.into_list.ensures) run.legal

pub returns-in-Err-clause-begun : goal.returns-in-Err-clause-begun
returns-in-Err-clause-begun g c =
    let k : Setup = record { plan = (g.M.Machine.state c.args.machine).plan; buffers = c.args.course.buffers } in
    let run = c.run_chosen-machine.ensures.run k (is_ready k _ (record { sides = c.requires.plan.sizes; size = c.requires.size; some = c.requires.from; opened = c.requires.open }) c.new-display.ensures.shown) c.in-Ok.ensures.opened in
    let cut = cut_of _ k _ _ _ _ _ _ _ run c.in-Err.is in
    (subst (λ l. AppendsFront (frames_of k.plan l k.buffers) ((g.F.Shelf.shelved c.args.shelf.now).name c.args.file.slot) (g.F.Shelf.shelved c.args.shelf.now) (g.F.Shelf.shelved c.run_chosen-machine.new.shelf)) (sym c.into_list.ensures) cut.begun)

pub returns-in-Err-clause-others : goal.returns-in-Err-clause-others
returns-in-Err-clause-others g c =
    let k : Setup = record { plan = (g.M.Machine.state c.args.machine).plan; buffers = c.args.course.buffers } in
    let run = c.run_chosen-machine.ensures.run k (is_ready k _ (record { sides = c.requires.plan.sizes; size = c.requires.size; some = c.requires.from; opened = c.requires.open }) c.new-display.ensures.shown) c.in-Ok.ensures.opened in
    let cut = cut_of _ k _ _ _ _ _ _ _ run c.in-Err.is in
    cut.others

pub returns-in-Err-clause-behaves : goal.returns-in-Err-clause-behaves
returns-in-Err-clause-behaves g c =
    let k : Setup = record { plan = (g.M.Machine.state c.args.machine).plan; buffers = c.args.course.buffers } in
    let run = c.run_chosen-machine.ensures.run k (is_ready k _ (record { sides = c.requires.plan.sizes; size = c.requires.size; some = c.requires.from; opened = c.requires.open }) c.new-display.ensures.shown) c.in-Ok.ensures.opened in
    let cut = cut_of _ k _ _ _ _ _ _ _ run c.in-Err.is in
    (cut_behaves c.in-Err.error (g.F.Shelf.shelved c.args.shelf.now) (g.F.Shelf.shelved c.run_chosen-machine.new.shelf) cut.behaves)

pub returns-in_default-clause-gated : goal.returns-in_default-clause-gated
returns-in_default-clause-gated g c = gated_none (g.G.Gate.told c.args.gate.now) [] c.args.history.now c.requires.empty

pub returns-in-Ok-played-clause-gated : goal.returns-in-Ok-played-clause-gated
returns-in-Ok-played-clause-gated g c =
    let k : Setup = record { plan = (g.M.Machine.state c.args.machine).plan; buffers = c.args.course.buffers } in
    let run = c.run_chosen-machine.ensures.run k (is_ready k _ (record { sides = c.requires.plan.sizes; size = c.requires.size; some = c.requires.from; opened = c.requires.open }) c.new-display.ensures.shown) c.in-Ok.ensures.opened in
    gated_then (g.G.Gate.told c.args.gate.now) [] c.run_chosen-machine.result.history.list c.finish_run.new.history run.gated c.finish_run.ensures.gated

pub returns-in-Err-clause-gated : goal.returns-in-Err-clause-gated
returns-in-Err-clause-gated g c =
    let k : Setup = record { plan = (g.M.Machine.state c.args.machine).plan; buffers = c.args.course.buffers } in
    let run = c.run_chosen-machine.ensures.run k (is_ready k _ (record { sides = c.requires.plan.sizes; size = c.requires.size; some = c.requires.from; opened = c.requires.open }) c.new-display.ensures.shown) c.in-Ok.ensures.opened in
    subst (AreGated (g.G.Gate.told c.args.gate.now)) (sym c.into_list.ensures) run.gated
