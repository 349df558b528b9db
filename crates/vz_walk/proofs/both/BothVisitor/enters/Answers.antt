use Rattle.std.proofs.Common.{[], ◌∷◌, true, refl}
use Rattle.vz_rules.specs.Walk.{Enters}
use Rattle.vz_walk.specs.declared.both.Both.{Both}
use Rattle.vz_walk.proofs.Pairing.{stops_first, meets_second}
use Rattle.vz_walk.proofs.both.BothVisitor.enters.Goals as goal

pub returns-then-not-enters : goal.returns-then-not-enters
returns-then-not-enters g c =
    let old : Both g.row.A.Denot g.row.B.Denot = c.args.self.now in
    stops_first g.A.Visitor.has_met g.A.Visitor.has_stopped g.B.Visitor.has_met g.B.Visitor.has_stopped
    (λ (b : Both g.row.A.Denot g.row.B.Denot). b.first) (λ (b : Both g.row.A.Denot g.row.B.Denot). b.second)
    (λ (b : Both g.row.A.Denot g.row.B.Denot). b.first_stopped)
    c.enters.result old (record { first = c.enters.new.self; second = old.second; first_stopped = true }) (Enters c.args.depth c.args.frame.now c.args.place.now ∷ [])
    c.if-not-enters.true refl c.enters.ensures

pub returns : goal.returns
returns g c =
    let old : Both g.row.A.Denot g.row.B.Denot = c.args.self.now in
    meets_second g.A.Visitor.has_met g.A.Visitor.has_stopped g.B.Visitor.has_met g.B.Visitor.has_stopped
    (λ (b : Both g.row.A.Denot g.row.B.Denot). b.first) (λ (b : Both g.row.A.Denot g.row.B.Denot). b.second)
    (λ (b : Both g.row.A.Denot g.row.B.Denot). b.first_stopped)
    c.enters.result c.enters-2.result old (record {
      first = c.enters.new.self;
      second = c.enters-2.new.self;
      first_stopped = old.first_stopped;
    }) (Enters c.args.depth c.args.frame.now c.args.place.now ∷ [])
    c.if-not-enters.false refl c.enters.ensures c.enters-2.ensures
