use Rattle.std.proofs.Common.{[], arith, sym}
use Rattle.vz_threads.proofs.Crewing.{crew_on, crew_then}
use Rattle.vz_threads.proofs.Gathered.{fresh_crew, fresh_many, as_many, all_of_desk, has_run, lands}
use Rattle.vz_threads.proofs.ran.gather_run.Goals as goal

pub take_rest-played-requires-after_bounds : goal.take_rest-played-requires-after_bounds
take_rest-played-requires-after_bounds g c κs within =
    let s = c.requires in
    let w = s.6 in
    crew_on _ _ _ _ _ (fresh_crew _ _ s.0.plan _ _ w.opened.counts w.opened.ends_are) w.out.works

pub gather-machine-requires-clause-all : goal.gather-machine-requires-clause-all
gather-machine-requires-clause-all g c κs within =
    let s = c.requires in
    let w = s.6 in
    omega (arith, as_many _ _ _ c.take_rest-played.ensures.works, as_many _ _ _ w.out.works, fresh_many _ s.0.plan _ _ w.opened.ends_are, w.opened.callers_are)

pub gather-machine-requires-clause-ours : goal.gather-machine-requires-clause-ours
gather-machine-requires-clause-ours g c κs within =
    let s = c.requires in
    let w = s.6 in
    all_of_desk _ _ _ _ (crew_on _ _ _ _ _ (crew_on _ _ _ _ _ (fresh_crew _ _ s.0.plan _ _ w.opened.counts w.opened.ends_are) w.out.works) c.take_rest-played.ensures.works)

pub gather-machine-requires-clause-hold : goal.gather-machine-requires-clause-hold
gather-machine-requires-clause-hold g c κs within =
    let s = c.requires in
    let w = s.6 in
    sym (lands (g.G.Gate.told c.args.gate.now) s.0 s.1 s.2 s.3 (g.O.Outlet.stands c.args.beside.outlet) c.args.desk.id c.args.desk.callers s.0.plan c.args.messages.now s.4 c.args.beside.ends.items
    s.5 c.args.beside.display [] w.ready w.opened w.out.same c.args.beside.played w.out.whole w.out.cut)

pub returns-clause-run : goal.returns-clause-run
returns-clause-run g c = λ k rounds paced start ends display w.
    let t = c.take_rest-played in
    has_run _ k rounds paced start (g.O.Outlet.stands c.args.beside.outlet) c.args.desk.id c.args.desk.callers _ c.args.messages.now ends
    t.new.ends.items display c.args.beside.display _ w.ready w.opened w.out.same c.args.beside.played t.result w.out.whole w.out.cut t.ensures.rest t.ensures.all (crew_then _ _ _ _ w.out.works t.ensures.works) w.out.gated
    c.gather-machine.ensures.legal c.gather-machine.ensures.clients c.gather-machine.ensures.display
