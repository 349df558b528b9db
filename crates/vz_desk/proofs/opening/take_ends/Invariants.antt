use Rattle.std.proofs.Common.{◌+◌, ◌<◌, ◌≤◌, length, vec_len, vec_capacity}
use Rattle.vz_desk.proofs.Dealing.{Dealt}
use Rattle.vz_desk.proofs.opening.take_ends.Given as goal

abbrev pub invariant-loop-tokens : goal.invariant-loop-tokens
invariant-loop-tokens g l = record {
  dealt : Dealt l.fn.tokens.items l.tokens.items l.ends.items;
  some : 0 < length l.tokens.items;
  room : vec_len l.ends + vec_len l.tokens ≤ vec_capacity l.ends + 1;
}

abbrev pub decreases-loop-tokens : goal.decreases-loop-tokens
decreases-loop-tokens g l = length l.tokens.items
