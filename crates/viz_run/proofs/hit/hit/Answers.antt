use Rattle.std.proofs.Common.{◌≡◌, ◌∙◌, pos, All, refl, sym, ap, subst, arith, IsTrue}
use Rattle.vz_geom.specs.declared.Point.{Point}
use Rattle.vz_geom.specs.declared.Size.{Size}
use Rattle.vz_geom.specs.Rectangle.{has, sized}
use Rattle.viz_run.specs.Read.{texts}
use Rattle.vz_outside.proofs.Calls.{ran_none}
use Rattle.vz_rules.specs.Plan.{Plan, IsPlan}
use Rattle.vz_rules.specs.Step.{NamesClient}
use Rattle.vz_rules.specs.Whole.{hit_last}
use Rattle.viz_run.specs.Lines.{hit_text, end_line}
use Rattle.viz_run.specs.Scheduled.{command_of}
use Rattle.viz_run.proofs.Admitting.{hit_given, hit_refused}
use Rattle.viz_run.proofs.Demonstrated.{all_played}
use Rattle.viz_run.proofs.Exits.{memory_at, refused_at, memory_behind, done_behind, made_of, made_front, made_history, none_kept_out}
use Rattle.viz_run.proofs.Fitting.{some_named, hit_sides_fit, hit_files_fit, column_near, row_near, point_fits}
use Rattle.viz_run.proofs.Opened.{its_plan, its_world, of_its_plan}
use Rattle.viz_run.proofs.Stepping.{went_through}
use Rattle.viz_run.proofs.Gating.{none_gated}
use Rattle.viz_run.proofs.hit.hit.Goals as goal

pub size_of-size-requires : goal.size_of-size-requires
size_of-size-requires g c = hit_sides_fit _ _ _ _ _ _ c.requires.fits

pub admit-requires-clause-some : goal.admit-requires-clause-some
admit-requires-clause-some g c = λ _ _. (some_named c.args.words.now.files.now (hit_files_fit _ _ _ _ _ _ c.requires.fits)).0

pub admit-requires-clause-few : goal.admit-requires-clause-few
admit-requires-clause-few g c = λ _ _. (some_named c.args.words.now.files.now (hit_files_fit _ _ _ _ _ _ c.requires.fits)).1

pub point_of-point-requires-clause-column : goal.point_of-point-requires-clause-column
point_of-point-requires-clause-column g c = column_near _ _ _ _ _ _ c.requires.fits

pub point_of-point-requires-clause-row : goal.point_of-point-requires-clause-row
point_of-point-requires-clause-row g c = row_near _ _ _ _ _ _ c.requires.fits

pub find_hit-requires-clause-opening : goal.find_hit-requires-clause-opening
find_hit-requires-clause-opening g c = λ _ _. its_world c.in_ok-machine.machine c.in_ok-plan.field-0.plan c.in_ok-machine.ensures

pub find_hit-requires-clause-files : goal.find_hit-requires-clause-files
find_hit-requires-clause-files g c = λ _ _.
    (of_its_plan c.in_ok-machine.machine c.in_ok-plan.field-0.plan c.in_ok-machine.ensures IsPlan c.files.ensures.kept).few_files

pub find_hit-requires-clause-named : goal.find_hit-requires-clause-named
find_hit-requires-clause-named g c = λ _ _.
    let made = c.in_ok-plan.field-0.plan in
    of_its_plan c.in_ok-machine.machine made c.in_ok-machine.ensures (λ (p : Plan). All (NamesClient p) c.deref.result.now)
    (subst (All (NamesClient made)) (sym c.deref.ensures.value) c.in_ok-plan.ensures.named)

pub find_hit-requires-clause-point : goal.find_hit-requires-clause-point
find_hit-requires-clause-point g c = λ _ _.
    let w = c.args.words.now in
    let opened = its_plan c.in_ok-machine.machine c.in_ok-plan.field-0.plan c.in_ok-machine.ensures in
    let size : c.in_ok-machine.machine.plan.size ≡ c.size_of-size.result = ap (λ (p : Plan). p.size) (opened ∙ c.in_ok-plan.ensures.accepted.1.plan) in
    subst (λ (z : Size). IsTrue (has (sized z) c.point_of-point.result)) (sym (size ∙ c.size_of-size.ensures.size))
    (subst (λ (q : Point). IsTrue (has (sized (record { w = pos w.width; h = pos w.height })) q)) (sym c.point_of-point.ensures)
    (point_fits w.width w.height w.schedule.now w.x w.y (texts w.files.now) c.requires.fits))

pub returns-in_err-plan-clause-answers : goal.returns-in_err-plan-clause-answers
returns-in_err-plan-clause-answers g c = λ steps.
    let a = g.F.Shelf.shelved c.args.shelf.now in
    let w = c.args.words.now in
    refused_at (command_of w) c.args.history.now a _ steps c.from_residual.result _ c.from_residual.ensures.1 c.in_err-plan.ensures.words
    (λ x at. hit_refused w.width w.height w.schedule.now w.x w.y (texts w.files.now) _ a c.size_of-size.ensures.size x
    (c.in_err-plan.ensures.input x at)) c.requires.empty c.in_err-plan.ensures.files c.in_err-plan.ensures.behaves

pub returns-in_err-machine-clause-answers : goal.returns-in_err-machine-clause-answers
returns-in_err-machine-clause-answers g c = λ steps.
    let a = g.F.Shelf.shelved c.args.shelf.now in
    memory_at (command_of c.args.words.now) c.args.history.now a _ steps c.from_residual-in_err-machine.result
    c.from_residual-in_err-machine.ensures.1 c.requires.empty c.admit.ensures.files (went_through c.in_ok-plan.field-0 a _ c.in_ok-plan.ensures.behaves)

pub returns-in_err-hit-clause-answers : goal.returns-in_err-hit-clause-answers
returns-in_err-hit-clause-answers g c = λ steps.
    let a = g.F.Shelf.shelved c.args.shelf.now in
    let b = g.F.Shelf.shelved c.admit.new.shelf in
    let w = c.args.words.now in
    let asked = command_of w in
    let made = c.in_ok-plan.field-0 in
    let got = hit_given w.width w.height w.schedule.now w.x w.y (texts w.files.now) _ a c.size_of-size.ensures.size made.plan made.events.items
    c.in_ok-plan.ensures.accepted in
    let makes = made_of asked got.0 made.plan _ c.deref.result.now c.in_ok-machine.machine c.in_ok-machine.ensures c.deref.ensures.value got.2 in
    let p = c.in_ok-machine.machine.plan in
    let h = c.find_hit.new.history in
    memory_behind asked h a b b steps steps (went_through made a b c.in_ok-plan.ensures.behaves) c.admit.ensures.files got.0 got.1 p makes.0
    c.from_residual-in_err-hit.result c.from_residual-in_err-hit.ensures.1
    (made_front asked got.0 p _ makes h c.in_err-hit.ensures.front) tt (none_kept_out b) (ran_none b)

pub returns-in_err-hit_line-clause-answers : goal.returns-in_err-hit_line-clause-answers
returns-in_err-hit_line-clause-answers g c = λ steps.
    let a = g.F.Shelf.shelved c.args.shelf.now in
    let b = g.F.Shelf.shelved c.admit.new.shelf in
    let w = c.args.words.now in
    let asked = command_of w in
    let made = c.in_ok-plan.field-0 in
    let got = hit_given w.width w.height w.schedule.now w.x w.y (texts w.files.now) _ a c.size_of-size.ensures.size made.plan made.events.items
    c.in_ok-plan.ensures.accepted in
    let makes = made_of asked got.0 made.plan _ c.deref.result.now c.in_ok-machine.machine c.in_ok-machine.ensures c.deref.ensures.value got.2 in
    let p = c.in_ok-machine.machine.plan in
    let h = c.find_hit.new.history in
    memory_behind asked h a b b steps steps (went_through made a b c.in_ok-plan.ensures.behaves) c.admit.ensures.files got.0 got.1 p makes.0
    c.from_residual-in_err-hit_line.result c.from_residual-in_err-hit_line.ensures.1
    (made_front asked got.0 p _ makes h (all_played p _ h c.in_ok-hit.ensures.history)) tt (none_kept_out b) (ran_none b)

pub returns-clause-answers : goal.returns-clause-answers
returns-clause-answers g c = λ steps.
    let a = g.F.Shelf.shelved c.args.shelf.now in
    let b = g.F.Shelf.shelved c.admit.new.shelf in
    let w = c.args.words.now in
    let asked = command_of w in
    let made = c.in_ok-plan.field-0 in
    let got = hit_given w.width w.height w.schedule.now w.x w.y (texts w.files.now) _ a c.size_of-size.ensures.size made.plan made.events.items
    c.in_ok-plan.ensures.accepted in
    let makes = made_of asked got.0 made.plan _ c.deref.result.now c.in_ok-machine.machine c.in_ok-machine.ensures c.deref.ensures.value got.2 in
    let p = c.in_ok-machine.machine.plan in
    let h = c.find_hit.new.history in
    done_behind asked h a b b steps steps (went_through made a b c.in_ok-plan.ensures.behaves) c.admit.ensures.files got.0 got.1 p makes.0 _
    (of_its_plan c.in_ok-machine.machine made.plan c.in_ok-machine.ensures IsPlan c.files.ensures.kept) c.in_ok-hit.ensures.history.legal (omega arith)
    (made_history asked got.0 p _ makes h c.in_ok-hit.ensures.history) tt (omega arith) (
      c.in_ok-hit_line.ensures
          ∙ (ap hit_text (c.in_ok-hit.ensures.hit ∙ ap (λ (q : Point). hit_last p h q) c.point_of-point.ensures)
          ∙ ap (λ (x : Plan). end_line asked x h) makes.0),
      refl,
    ) (omega arith) (none_kept_out b) (ran_none b)

pub returns-in_err-plan-clause-gated : goal.returns-in_err-plan-clause-gated
returns-in_err-plan-clause-gated g c = none_gated (g.G.Gate.told c.args.gate.now) c.args.history.now c.requires.empty

pub returns-in_err-machine-clause-gated : goal.returns-in_err-machine-clause-gated
returns-in_err-machine-clause-gated g c = none_gated (g.G.Gate.told c.args.gate.now) c.args.history.now c.requires.empty

pub returns-in_err-hit-clause-gated : goal.returns-in_err-hit-clause-gated
returns-in_err-hit-clause-gated g c = c.find_hit.ensures.gated

pub returns-in_err-hit_line-clause-gated : goal.returns-in_err-hit_line-clause-gated
returns-in_err-hit_line-clause-gated g c = c.find_hit.ensures.gated

pub returns-clause-gated : goal.returns-clause-gated
returns-clause-gated g c = c.find_hit.ensures.gated
