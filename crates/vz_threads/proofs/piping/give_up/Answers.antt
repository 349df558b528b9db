use Rattle.std.proofs.Common.{ap, sym, arith}
use Rattle.vz_threads.specs.Told.{nothing}
use Rattle.vz_threads.proofs.{Gathered.fresh_crew, Gathered.fresh_many, Gathered.all_of_desk, Through.given_up}
use Rattle.vz_threads.proofs.piping.give_up.Goals as goal

pub gather-machine-requires-clause-all : goal.gather-machine-requires-clause-all
gather-machine-requires-clause-all g c κs within =
    let s = c.requires in
    omega (arith, fresh_many _ s.0.plan _ _ s.3.ends_are, s.3.callers_are)

pub gather-machine-requires-clause-ours : goal.gather-machine-requires-clause-ours
gather-machine-requires-clause-ours g c κs within =
    let s = c.requires in
    all_of_desk nothing _ _ _ (fresh_crew nothing _ s.0.plan _ _ s.3.counts s.3.ends_are)

pub gather-machine-requires-clause-hold : goal.gather-machine-requires-clause-hold
gather-machine-requires-clause-hold g c κs within = sym (ap (λ o. o.totals.in_flight) c.requires.3.display_is)

pub returns-clause-run : goal.returns-clause-run
returns-clause-run g c = λ k start rounds paced ready opened.
    given_up _ k rounds paced start c.args.opened.desk.id c.args.opened.desk.callers _ c.args.messages.now c.args.opened.ends.items c.args.opened.display _ ready opened
    c.gather-machine.ensures.legal c.gather-machine.ensures.clients c.gather-machine.ensures.display
