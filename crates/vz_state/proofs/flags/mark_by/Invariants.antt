use Rattle.std.proofs.Common.{◌≡◌, Bool, map, take, drop, length, ◌++◌, if◌then◌else◌, true}
use Rattle.vz_rules.specs.World.{Surface}
use Rattle.vz_state.proofs.flags.mark_by.Given as goal

-- the surfaces so far are marked, and the others are as they were
abbrev pub invariant-loop-k : goal.invariant-loop-k
invariant-loop-k l =
    record {
      count : length l.surfaces ≡ length l.initial.surfaces;
      same : (p : Surface → Bool) → l.flags ≡ map p l.initial.surfaces
          → l.surfaces ≡ map (λ c. if p c then record c { marked = true } else c) (take l.k l.initial.surfaces) ++ drop l.k l.initial.surfaces;
    }
