use Rattle.std.proofs.Common.{◌∙◌, ap, sym}
use Rattle.vz_threads.specs.Outlets.{Fixed}
use Rattle.vz_threads.proofs.{Renaming.ready_named, Renaming.run_unnamed, Renaming.now_at, Through.fixed_stays}
use Rattle.vz_threads.proofs.chosen.run_chosen.Goals as goal

pub run_framed-machine-requires-clause-opened : goal.run_framed-machine-requires-clause-opened
run_framed-machine-requires-clause-opened g c κs within =
    let s = c.requires.opened in
    (s.0, ready_named s.0 c.args.file.slot c.args.file.size _ _ c.args.display.shown (g.F.Shelf.shelved c.args.shelf.now) c.args.steps.now s.1, s.2)

pub returns-clause-run : goal.returns-clause-run
returns-clause-run g c = λ k ready opened.
    let r = c.run_framed-machine in
    let run = r.ensures.run k (ready_named k c.args.file.slot c.args.file.size _ _ c.args.display.shown (g.F.Shelf.shelved c.args.shelf.now) c.args.steps.now ready) opened in
    let fixed = fixed_stays _ k _ _ _ _ _ _ run in
    now_at _ g.F.Shelf.shelved k c.args.course.rounds c.args.course.paced _ c.args.file.slot c.args.file.size _ _ _ _ _ _ _
    (c.shelf-1.given.1 (ap (λ (x : Fixed). x.shelf) (sym fixed)) ∙ c.give_back.ensures.first)
    (c.steps-1.given.1 (ap (λ (x : Fixed). x.steps) (sym fixed)) ∙ c.give_back.ensures.second)
    (run_unnamed k c.args.file.slot c.args.file.size _ _ c.args.display.shown _ (g.F.Shelf.shelved c.args.shelf.now) _ c.args.steps.now _ _ _ _ c.args.course.rounds c.args.course.paced _ run)
