use Rattle.std.proofs.Common.{subst, sym}
use Rattle.vz_support.specs.Supporting.{IsSupport}
use Rattle.vz_support.proofs.Ticking.{is_over}
use Rattle.vz_support.proofs.support.Support.over.Goals as goal

pub returns : goal.returns
returns c p w is = is_over p w _ (subst (IsSupport p w) (sym c.self.view_is) is)
