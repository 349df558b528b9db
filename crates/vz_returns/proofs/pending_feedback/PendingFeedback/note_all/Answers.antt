use Rattle.std.proofs.Common.{arith}
use Rattle.vz_returns.proofs.Given.{noted_next, noted_all}
use Rattle.vz_returns.proofs.pending_feedback.PendingFeedback.note_all.Goals as goal

pub loop-sub-preserved : goal.loop-sub-preserved
loop-sub-preserved c =
    let i = c.loop-sub.invariant in (
      λ gets subs o. noted_next c.args.drawn.now c.loop-sub.sub-index _ gets subs c.loop-sub.self.owed c.note.new.self.owed c.loop-sub-test.true (i.0 gets subs o) c.note.ensures.noted,
      omega (arith, i.1, c.note.ensures.due),
      omega (arith, i.2, c.note.ensures.spare),
    )

pub returns-clause-owed : goal.returns-clause-owed
returns-clause-owed c =
    λ gets subs o. noted_all c.args.drawn.now c.loop-sub.sub-index gets subs c.loop-sub.self.owed (omega (arith, c.loop-sub-test.false))
    (c.loop-sub.invariant.0 gets subs o)
