use Rattle.std.proofs.Common.{◌≡◌, ◌+◌, ◌-◌, ◌≤◌, vec_len, vec_capacity}
use Rattle.vz_loans.specs.{Tokens.unused_from, Rule.ready}
use Rattle.vz_loans.proofs.lock.Lock.deal.Given as goal

abbrev pub invariant-loop-number : goal.invariant-loop-number
invariant-loop-number g l = record {
  table : l.seat.table_id ≡ l.fn.seat.table_id;
  me : l.seat.me ≡ ready l.fn.seat.me.0.plan l.number;
  items : l.tokens.items ≡ unused_from l.self.id l.fn.seat.me.0.plan 1 (l.number - 1);
  room : vec_len l.tokens + 1 + (l.self.callers - l.number) ≤ vec_capacity l.tokens;
}
