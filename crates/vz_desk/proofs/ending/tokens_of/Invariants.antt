use Rattle.std.proofs.Common.{◌+◌, ◌≤◌, length, vec_len, vec_capacity}
use Rattle.vz_desk.proofs.Gathering.{Collected}
use Rattle.vz_desk.proofs.ending.tokens_of.Given as goal

abbrev pub invariant-loop-end : goal.invariant-loop-end
invariant-loop-end g l = record {
  collected : Collected l.fn.ends.items l.ends.items l.fn.d l.room.items;
  room : vec_len l.room + vec_len l.ends ≤ vec_capacity l.room;
}

abbrev pub decreases-loop-end : goal.decreases-loop-end
decreases-loop-end g l = length l.ends.items
