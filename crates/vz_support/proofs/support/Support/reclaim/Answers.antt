use Rattle.std.proofs.Common.{subst, sym}
use Rattle.vz_support.specs.Supporting.{IsSupport}
use Rattle.vz_support.proofs.Taking.{takes_returns}
use Rattle.vz_support.proofs.support.Support.reclaim.Goals as goal

pub returns : goal.returns
returns c p w x sends is =
    takes_returns p w _ c.args.c x _ sends (subst (IsSupport p w) (sym c.self.view_is) is) c.skip.new.self c.skip.ensures.taken
