use Rattle.std.proofs.Common.{◌≡◌, ℕ, ◌+◌, ◌≤◌, OnOk, OnErr, sym, subst, ◌∙◌}
use Rattle.vz_base.specs.declared.limits.TheConstants.{MOST_BUFFERS}
use Rattle.viz_run.specs.Read.{texts}
use Rattle.vz_outside.specs.Shelved.{Appends, AppendsFront}
use Rattle.vz_rules.specs.Frames.{painted}
use Rattle.vz_threads.specs.Courses.{frames_of}
use Rattle.viz_run.proofs.Fitting.{run_buffers_fit, run_sides_fit, run_ticks_fit}
use Rattle.viz_run.proofs.coursing.show_run.Goals as goal

pub size_of-size-requires : goal.size_of-size-requires
size_of-size-requires g c =
    let w = c.args.words.now in
    run_sides_fit w.paced w.buffers w.pipe w.width w.height w.ticks w.frames.now w.log.now (texts w.files.now) c.requires.fits

pub play_course-requires-clause-opening : goal.play_course-requires-clause-opening
play_course-requires-clause-opening g c = λ _ _. c.requires.opening

pub play_course-requires-clause-plan : goal.play_course-requires-clause-plan
play_course-requires-clause-plan g c = λ _ _. c.requires.plan

pub play_course-requires-clause-rounds : goal.play_course-requires-clause-rounds
play_course-requires-clause-rounds g c =
    let w = c.args.words.now in
    λ _ _. run_ticks_fit w.paced w.buffers w.pipe w.width w.height w.ticks w.frames.now w.log.now (texts w.files.now) c.requires.fits

pub play_course-requires-clause-counts : goal.play_course-requires-clause-counts
play_course-requires-clause-counts g c = λ _ _. c.requires.counts

pub play_course-requires-clause-size : goal.play_course-requires-clause-size
play_course-requires-clause-size g c = λ _ _. c.requires.size ∙ sym c.size_of-size.ensures.size

pub play_course-requires-clause-from : goal.play_course-requires-clause-from
play_course-requires-clause-from g c =
    let w = c.args.words.now in
    λ _ _. subst (λ (n : ℕ). 1 ≤ n) (sym c.buffer_count.ensures)
    (run_buffers_fit w.paced w.buffers w.pipe w.width w.height w.ticks w.frames.now w.log.now (texts w.files.now) c.requires.fits).0

pub play_course-requires-clause-upto : goal.play_course-requires-clause-upto
play_course-requires-clause-upto g c =
    let w = c.args.words.now in
    λ _ _. subst (λ (n : ℕ). n ≤ MOST_BUFFERS) (sym c.buffer_count.ensures)
    (run_buffers_fit w.paced w.buffers w.pipe w.width w.height w.ticks w.frames.now w.log.now (texts w.files.now) c.requires.fits).1

pub returns-clause-run : goal.returns-clause-run
returns-clause-run g c = c.play_course.ensures.run

pub returns-clause-rest : goal.returns-clause-rest
returns-clause-rest g c = c.play_course.ensures.rest

pub returns-clause-frames : goal.returns-clause-frames
returns-clause-frames g c =
    let p = (g.M.Machine.state c.args.machine).plan in
    let h = c.play_course.new.history in
    let a = g.F.Shelf.shelved c.args.shelf.now in
    let b = g.F.Shelf.shelved c.play_course.new.shelf in
    subst (λ (n : ℕ). OnOk c.play_course.result (Appends (frames_of p h n) (a.name c.args.slot) a b))
    c.buffer_count.ensures c.play_course.ensures.written

pub returns-clause-counted : goal.returns-clause-counted
returns-clause-counted g c =
    let p = (g.M.Machine.state c.args.machine).plan in
    let h = c.play_course.new.history in
    subst (λ (n : ℕ). OnOk c.play_course.result (c.play_course.new.steps ≡ c.args.steps.now + painted p h n))
    c.buffer_count.ensures c.play_course.ensures.counted

pub returns-clause-legal : goal.returns-clause-legal
returns-clause-legal g c = c.play_course.ensures.legal

pub returns-clause-begun : goal.returns-clause-begun
returns-clause-begun g c =
    let p = (g.M.Machine.state c.args.machine).plan in
    let h = c.play_course.new.history in
    let a = g.F.Shelf.shelved c.args.shelf.now in
    let b = g.F.Shelf.shelved c.play_course.new.shelf in
    subst (λ (n : ℕ). OnErr c.play_course.result (AppendsFront (frames_of p h n) (a.name c.args.slot) a b))
    c.buffer_count.ensures c.play_course.ensures.begun

pub returns-clause-gated : goal.returns-clause-gated
returns-clause-gated g c = c.play_course.ensures.gated
