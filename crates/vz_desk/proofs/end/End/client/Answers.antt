use Rattle.std.proofs.Common.{subst}
use Rattle.vz_desk.specs.Owners.{Stands}
use Rattle.vz_desk.proofs.end.End.client.Goals as goal

pub returns-clause-stands : goal.returns-clause-stands
returns-clause-stands g c = let e = c.self.invariant in subst Stands c.self.view_is (record { plan = e.plan; history = e.history; sees = e.sees; client = e.client; counted = e.counted })
