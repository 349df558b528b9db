use Rattle.vz_deadlines.proofs.Dues.{ready_at}
use Rattle.vz_deadlines.proofs.laws.new_ticks_make_due.Goals as goal

pub returns : goal.returns
returns c = ready_at
