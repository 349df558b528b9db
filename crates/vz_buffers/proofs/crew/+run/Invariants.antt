use Rattle.std.proofs.Common.{◌+◌, ◌-◌, ◌*◌, length}
use Rattle.vz_buffers.proofs.crew.+run.Given as goal

abbrev pub decreases-run : goal.decreases-run
decreases-run g l = 4 * length l.painters.now

abbrev pub decreases-run_both : goal.decreases-run_both
decreases-run_both g l = 4 * (length l.ours.now + length l.theirs.now) - 1

abbrev pub decreases-run_both-first : goal.decreases-run_both-first
decreases-run_both-first g l = 4 * length l.ours.now + 1

abbrev pub decreases-run_both-second : goal.decreases-run_both-second
decreases-run_both-second g l = 4 * length l.theirs.now + 1
