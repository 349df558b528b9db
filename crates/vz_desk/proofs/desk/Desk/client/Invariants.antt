use Rattle.vz_desk.specs.Owners.{IsSameOwner, MakesNone}
use Rattle.vz_desk.proofs.desk.Desk.client.Given as goal

abbrev pub invariant-loop : goal.invariant-loop
invariant-loop g l = record {
  runs : (goal.iterator-loop g).can_next l.iterator' × (goal.iterator-loop g).is_finite l.iterator';
  same : IsSameOwner l.fn.end l.end;
  none : MakesNone l.fn.end l.end;
}
