use Rattle.std.proofs.Common.{◌∙◌, ap, subst}
use Rattle.vz_flat.specs.Ops.{value}
use Rattle.vz_occlude.specs.Pictures.{IsThinned}
use Rattle.vz_occlude.proofs.Valued.{kept_value}
use Rattle.vz_occlude.proofs.picture.Thin.ops.Goals as goal

pub returns-clause-nested : goal.returns-clause-nested
returns-clause-nested c = let good : IsThinned c.args.self.now = subst IsThinned c.self.view_is c.self.invariant in good.nested

pub returns-clause-kept : goal.returns-clause-kept
returns-clause-kept c = let good : IsThinned c.args.self.now = subst IsThinned c.self.view_is c.self.invariant in good.kept

pub returns-clause-same : goal.returns-clause-same
returns-clause-same c q d =
    let good : IsThinned c.args.self.now = subst IsThinned c.self.view_is c.self.invariant in
    ap (λ o. value o q d) good.kept ∙ kept_value c.args.self.now.whole q d good.nested
