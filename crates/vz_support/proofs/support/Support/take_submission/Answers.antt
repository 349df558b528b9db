use Rattle.std.proofs.Common.{subst, sym, ◌∙◌}
use Rattle.vz_support.specs.Supporting.{IsSupport}
use Rattle.vz_support.proofs.{Taking.sent_is, Taking.takes_plain, Submitting.same_submission}
use Rattle.vz_support.proofs.support.Support.take_submission.Goals as goal

pub returns-clause-frame : goal.returns-clause-frame
returns-clause-frame c p w x local frame sends is =
    same_submission c.in-Submit.local local c.in-Submit.frame frame
    (c.in-Submit.ensures.message ∙ sent_is p w _ c.args.c x _ sends (subst (IsSupport p w) (sym c.self.view_is) is))

pub returns-clause-refused : goal.returns-clause-refused
returns-clause-refused c p w x local frame r sends is =
    takes_plain p w _ c.args.c x _ sends (subst (IsSupport p w) (sym c.self.view_is) is) c.take.new.self c.take.ensures.taken
