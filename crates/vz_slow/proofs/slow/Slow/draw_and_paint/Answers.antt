use Rattle.std.proofs.Common.{sym}
use Rattle.vz_slow.proofs.Quieting.{undrawn_is, undrawn_outcome}
use Rattle.vz_slow.proofs.slow.Slow.draw_and_paint.Goals as goal

pub returns-in-Some-clause-step : goal.returns-in-Some-clause-step
returns-in-Some-clause-step c = undrawn_outcome c.args.self.now c.undrawn.result c.in-Some.reply c.none.result c.undrawn.ensures c.in-Some.is c.none.ensures

pub returns-in-Some-clause-picture : goal.returns-in-Some-clause-picture
returns-in-Some-clause-picture c = sym (undrawn_is c.args.self.now c.undrawn.result c.in-Some.reply c.undrawn.ensures c.in-Some.is).picture
