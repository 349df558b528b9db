use Rattle.std.proofs.Common.{[], ◌∷◌, true, refl}
use Rattle.vz_rules.specs.Walk.{Quad}
use Rattle.vz_walk.specs.declared.both.Both.{Both}
use Rattle.vz_walk.proofs.Pairing.{stops_first, meets_second}
use Rattle.vz_walk.proofs.both.BothVisitor.quad.Goals as goal

pub returns-then-not-quad : goal.returns-then-not-quad
returns-then-not-quad g c =
    let old : Both g.row.A.Denot g.row.B.Denot = c.args.self.now in
    stops_first g.A.Visitor.has_met g.A.Visitor.has_stopped g.B.Visitor.has_met g.B.Visitor.has_stopped
    (λ (b : Both g.row.A.Denot g.row.B.Denot). b.first) (λ (b : Both g.row.A.Denot g.row.B.Denot). b.second)
    (λ (b : Both g.row.A.Denot g.row.B.Denot). b.first_stopped)
    c.quad.result old (record { first = c.quad.new.self; second = old.second; first_stopped = true }) (Quad ∷ [])
    c.if-not-quad.true refl c.quad.ensures

pub returns : goal.returns
returns g c =
    let old : Both g.row.A.Denot g.row.B.Denot = c.args.self.now in
    meets_second g.A.Visitor.has_met g.A.Visitor.has_stopped g.B.Visitor.has_met g.B.Visitor.has_stopped
    (λ (b : Both g.row.A.Denot g.row.B.Denot). b.first) (λ (b : Both g.row.A.Denot g.row.B.Denot). b.second)
    (λ (b : Both g.row.A.Denot g.row.B.Denot). b.first_stopped)
    c.quad.result c.quad-2.result old (record {
      first = c.quad.new.self;
      second = c.quad-2.new.self;
      first_stopped = old.first_stopped;
    }) (Quad ∷ [])
    c.if-not-quad.false refl c.quad.ensures c.quad-2.ensures
