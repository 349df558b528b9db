use Rattle.std.proofs.Common.{[], ◌∷◌, true, refl}
use Rattle.vz_rules.specs.Walk.{Shows}
use Rattle.vz_walk.specs.declared.both.Both.{Both}
use Rattle.vz_walk.proofs.Pairing.{stops_first, meets_second}
use Rattle.vz_walk.proofs.both.BothVisitor.shows.Goals as goal

pub returns-then-not-shows : goal.returns-then-not-shows
returns-then-not-shows g c =
    let old : Both g.row.A.Denot g.row.B.Denot = c.args.self.now in
    stops_first g.A.Visitor.has_met g.A.Visitor.has_stopped g.B.Visitor.has_met g.B.Visitor.has_stopped
    (λ (b : Both g.row.A.Denot g.row.B.Denot). b.first) (λ (b : Both g.row.A.Denot g.row.B.Denot). b.second)
    (λ (b : Both g.row.A.Denot g.row.B.Denot). b.first_stopped)
    c.shows.result old (record { first = c.shows.new.self; second = old.second; first_stopped = true }) (Shows c.args.range.now c.args.shown.now c.args.seen.now ∷ [])
    c.if-not-shows.true refl c.shows.ensures

pub returns : goal.returns
returns g c =
    let old : Both g.row.A.Denot g.row.B.Denot = c.args.self.now in
    meets_second g.A.Visitor.has_met g.A.Visitor.has_stopped g.B.Visitor.has_met g.B.Visitor.has_stopped
    (λ (b : Both g.row.A.Denot g.row.B.Denot). b.first) (λ (b : Both g.row.A.Denot g.row.B.Denot). b.second)
    (λ (b : Both g.row.A.Denot g.row.B.Denot). b.first_stopped)
    c.shows.result c.shows-2.result old (record {
      first = c.shows.new.self;
      second = c.shows-2.new.self;
      first_stopped = old.first_stopped;
    }) (Shows c.args.range.now c.args.shown.now c.args.seen.now ∷ [])
    c.if-not-shows.false refl c.shows.ensures c.shows-2.ensures
