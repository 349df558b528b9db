use Rattle.std.proofs.Common.{subst, sym, ◌∙◌}
use Rattle.vz_support.specs.Supporting.{IsSupport}
use Rattle.vz_support.proofs.Submitting.{gone_same}
use Rattle.vz_support.proofs.support.Support.is_gone.Goals as goal

pub returns : goal.returns
returns c p w keeps is = c.is_gone.ensures ∙ gone_same p w _ c.args.sink.now keeps (subst (IsSupport p w) (sym c.self.view_is) is)
