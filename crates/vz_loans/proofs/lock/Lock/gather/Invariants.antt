use Rattle.std.proofs.Common.{◌≡◌, length}
use Rattle.vz_loans.proofs.Closing.{Joining}
use Rattle.vz_loans.proofs.lock.Lock.gather.Given as goal

abbrev pub invariant-loop-token : goal.invariant-loop-token
invariant-loop-token g l = record {
  table : l.seat.table_id ≡ l.self.id;
  joining : Joining l.self.id l.fn.tokens.items l.tokens.items l.seat.me.0;
}

abbrev pub decreases-loop-token : goal.decreases-loop-token
decreases-loop-token g l = length l.tokens.items
