use Rattle.std.proofs.Common.{◌++◌, ◌∷◌, [], cond, ap, ◌∙◌}
use Rattle.vz_rules.specs.World.{Submission, is_active}
use Rattle.vz_state.proofs.Activating.{active_more}
use Rattle.vz_state.proofs.submission.active_frames.Goals as goal

pub loop-submission-preserved : goal.loop-submission-preserved
loop-submission-preserved c =
    active_more c.args.submissions.now c.loop-submission.submission-index c.submission-item.result _ _ c.loop-submission-test.true c.loop-submission.invariant
    (c.in_ok-add_active.ensures ∙ ap (λ (s : Submission). c.loop-submission.active.items ++ cond (is_active s) (s.submitted ∷ []) []) c.submission-item.is)
