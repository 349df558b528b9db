use Rattle.vz_desk.specs.Owners.{IsSameOwner, MakesNone}
use Rattle.vz_desk.proofs.desk.Desk.pace.Given as goal

abbrev pub invariant-loop : goal.invariant-loop
invariant-loop g l = record { same : IsSameOwner l.fn.d l.d; none : MakesNone l.fn.d l.d }
