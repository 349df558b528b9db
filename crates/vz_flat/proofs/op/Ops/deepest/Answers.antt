use Rattle.vz_flat.proofs.Nested.{most_of}
use Rattle.vz_flat.proofs.op.Ops.deepest.Goals as goal

pub returns-clause-limit : goal.returns-clause-limit
returns-clause-limit c = most_of c.self.inside.list c.self.inside.deepest c.self.invariant.0 c.self.invariant.1
