use Rattle.std.proofs.Common.{subst}
use Rattle.vz_desk.specs.Displays.{DisplayStands}
use Rattle.vz_desk.proofs.display_end.DisplayEnd.in_flight.Goals as goal

pub returns-clause-stands : goal.returns-clause-stands
returns-clause-stands g c = let i = c.self.invariant.0 in subst DisplayStands c.self.view_is (record { plan = i.plan; history = i.history; sees = i.sees; counted = i.counted })
