use Rattle.std.proofs.Common.{subst, sym}
use Rattle.vz_support.specs.Supporting.{IsSupport}
use Rattle.vz_support.proofs.Taking.{takes_plain}
use Rattle.vz_support.proofs.support.Support.refuse.Goals as goal

pub returns : goal.returns
returns c p w x m r sends is =
    takes_plain p w _ c.args.c x m sends (subst (IsSupport p w) (sym c.self.view_is) is) c.take.new.self c.take.ensures.taken
