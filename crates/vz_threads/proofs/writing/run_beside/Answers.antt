use Rattle.std.proofs.Common.{◌∙◌, ap, arith, sym}
use Rattle.vz_threads.proofs.{Gathered.can_play, Gathered.fresh_many, Gathered.fresh_planned, Through.wrote_there}
use Rattle.vz_threads.proofs.writing.run_beside.Goals as goal

pub play_joined-beside-requires-clause-room : goal.play_joined-beside-requires-clause-room
play_joined-beside-requires-clause-room g c κs within =
    let s = c.requires.opened in
    let many = fresh_many _ s.0.plan _ _ s.2.ends_are in
    let room = c.requires.room.1 in
    (c.requires.room.0, omega (arith, many, room))

pub play_joined-beside-requires-clause-play : goal.play_joined-beside-requires-clause-play
play_joined-beside-requires-clause-play g c κs within =
    let s = c.requires.opened in
    can_play _ s.0 c.args.course.paced (g.O.Outlet.stands c.args.outlet) _ _ _ _ _ s.1 s.2

pub gather_run-requires-after_bounds : goal.gather_run-requires-after_bounds
gather_run-requires-after_bounds g c κs within =
    let s = c.requires.opened in
    let b = c.play_joined-beside.ensures in
    (s.0, c.args.course.rounds, c.args.course.paced, g.O.Outlet.stands c.args.outlet, c.args.opened.ends.items, c.args.opened.display, record { ready = s.1; opened = s.2; out = b.played })

pub returns-clause-plan : goal.returns-clause-plan
returns-clause-plan g c = λ k opened.
    let b = c.play_joined-beside.ensures in
    c.gather_run.ensures.plan k.plan (fresh_planned k.plan c.args.opened.desk.id c.args.opened.display c.play_joined-beside.result.beside.display opened.display_is b.played.same)

pub returns-clause-run : goal.returns-clause-run
returns-clause-run g c = λ k ready opened.
    let b = c.play_joined-beside.ensures in
    c.gather_run.ensures.run k c.args.course.rounds c.args.course.paced (g.O.Outlet.stands c.args.outlet) c.args.opened.ends.items c.args.opened.display
    (record { ready = ready; opened = opened; out = b.played })

pub returns-clause-pipe : goal.returns-clause-pipe
returns-clause-pipe g c =
    let d = c.play_joined-beside.ensures.done in
    ap (λ r. r.pipe) (c.receiver-1.given.1 (sym d.0) ∙ c.give_back.ensures.first) ∙ d.2

pub returns-clause-wrote : goal.returns-clause-wrote
returns-clause-wrote g c =
    let d = c.play_joined-beside.ensures.done in
    wrote_there g.F.Shelf.shelved _ _ _ _ c.args.slot _ _ (c.receiver-1.given.1 (sym d.0) ∙ c.give_back.ensures.first) (c.shelf-1.given.1 (sym d.1) ∙ c.give_back.ensures.second) d.3
