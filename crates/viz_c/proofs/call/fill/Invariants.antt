use Rattle.std.proofs.Common.{◌≡◌, ◌+◌, take}
use Rattle.std.specs.List.{sum}
use Rattle.viz_c.proofs.call.fill.Given as goal

-- the lengths so far and what is left are together the bytes
abbrev pub invariant-loop-at : goal.invariant-loop-at
invariant-loop-at l = sum (take l.at l.lengths) + l.left ≡ l.bytes
