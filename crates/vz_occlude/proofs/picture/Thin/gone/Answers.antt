use Rattle.std.proofs.Common.{subst}
use Rattle.vz_occlude.specs.Pictures.{IsThinned}
use Rattle.vz_occlude.proofs.picture.Thin.gone.Goals as goal

pub returns-clause-counted : goal.returns-clause-counted
returns-clause-counted c = let good : IsThinned c.args.self.now = subst IsThinned c.self.view_is c.self.invariant in good.gone
