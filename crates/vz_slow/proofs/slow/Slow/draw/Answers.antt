use Rattle.vz_slow.proofs.Quieting.{undrawn_outcome}
use Rattle.vz_slow.proofs.slow.Slow.draw.Goals as goal

pub returns-in-Some-clause-ok : goal.returns-in-Some-clause-ok
returns-in-Some-clause-ok c = undrawn_outcome c.args.self.now c.undrawn.result c.in-Some.reply c.none.result c.undrawn.ensures c.in-Some.is c.none.ensures
