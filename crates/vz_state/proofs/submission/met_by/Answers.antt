use Rattle.vz_state.proofs.Meets.{met_more}
use Rattle.vz_state.proofs.submission.met_by.Goals as goal

pub loop-submission-preserved : goal.loop-submission-preserved
loop-submission-preserved c =
    met_more c.loop-submission.met c.add_met.new.met c.args.submissions.now c.loop-submission.submission-index c.submission-item.result c.loop-submission-test.true c.submission-item.is
    c.in_ok-add_met.ensures c.loop-submission.invariant
