use Rattle.std.proofs.Common.{sym, subst, ◌∙◌}
use Rattle.vz_rules.specs.Plan.{IsPlan}
use Rattle.vz_manager.proofs.Opened.{plan_again}
use Rattle.vz_manager.proofs.opening.all_messages.Goals as goal

pub plan_of-requires : goal.plan_of-requires
plan_of-requires c =
    subst IsPlan (sym (plan_again c.args.plan _ _ (c.in-Err.ensures.back ∙ c.into_vec.ensures ∙ c.into_files.ensures) c.size-size.ensures.value)) c.requires.is

pub returns-in-Err-clause-back : goal.returns-in-Err-clause-back
returns-in-Err-clause-back c =
    c.plan_of.ensures ∙ plan_again c.args.plan _ _ (c.in-Err.ensures.back ∙ c.into_vec.ensures ∙ c.into_files.ensures) c.size-size.ensures.value
