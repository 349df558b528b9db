use Rattle.std.proofs.Common.{arith}
use Rattle.vz_threads.proofs.Gathered.{can_play, fresh_many, fresh_planned}
use Rattle.vz_threads.proofs.ran.run_opened.Goals as goal

pub play_beside-beside-requires-clause-room : goal.play_beside-beside-requires-clause-room
play_beside-beside-requires-clause-room g c κs within =
    let s = c.requires.opened in
    let many = fresh_many _ s.0.plan _ _ s.2.ends_are in
    let room = c.requires.room.1 in
    (c.requires.room.0, omega (arith, many, room))

pub play_beside-beside-requires-clause-play : goal.play_beside-beside-requires-clause-play
play_beside-beside-requires-clause-play g c κs within =
    let s = c.requires.opened in
    can_play _ s.0 c.args.course.paced (g.O.Outlet.stands c.args.outlet) _ _ _ _ _ s.1 s.2

pub gather_run-requires-after_bounds : goal.gather_run-requires-after_bounds
gather_run-requires-after_bounds g c κs within =
    let s = c.requires.opened in
    let b = c.play_beside-beside.ensures in
    (s.0, c.args.course.rounds, c.args.course.paced, g.O.Outlet.stands c.args.outlet, c.args.opened.ends.items, c.args.opened.display, record { ready = s.1; opened = s.2; out = b.played })

pub returns-clause-plan : goal.returns-clause-plan
returns-clause-plan g c = λ k opened.
    let b = c.play_beside-beside.ensures in
    c.gather_run.ensures.plan k.plan (fresh_planned k.plan c.args.opened.desk.id c.args.opened.display c.play_beside-beside.result.display opened.display_is b.played.same)

pub returns-clause-run : goal.returns-clause-run
returns-clause-run g c = λ k ready opened.
    let b = c.play_beside-beside.ensures in
    c.gather_run.ensures.run k c.args.course.rounds c.args.course.paced (g.O.Outlet.stands c.args.outlet) c.args.opened.ends.items c.args.opened.display
    (record { ready = ready; opened = opened; out = b.played })
