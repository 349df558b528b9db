use Rattle.std.proofs.Common.{◌≤◌, drop, length}
use Rattle.vz_scene.specs.Order.{HasNumbers}
use Rattle.vz_scene.proofs.index.numbers_of.Given as goal

-- the pairs from k on are in it
abbrev pub invariant-loop-k : goal.invariant-loop-k
invariant-loop-k l =
    record {
      within : l.k ≤ length l.pairs;
      has : HasNumbers l.numbers (drop l.k l.pairs);
    }

abbrev pub decreases-loop-k : goal.decreases-loop-k
decreases-loop-k l = l.k
