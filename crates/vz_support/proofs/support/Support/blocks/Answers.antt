use Rattle.std.proofs.Common.{◌≡◌, IfOk, subst, sym}
use Rattle.vz_support.specs.Supporting.{IsSupport}
use Rattle.vz_support.proofs.Submitting.{blocks_same}
use Rattle.vz_support.proofs.support.Support.blocks.Goals as goal

pub returns : goal.returns
returns c p w x frame is here same =
    subst (λ b. IfOk c.blocks-2.result (λ l. l ≡ b))
    (blocks_same p w _ c.args.c x frame c.args.listings.now (subst (IsSupport p w) (sym c.self.view_is) is) here same) c.blocks-2.ensures
