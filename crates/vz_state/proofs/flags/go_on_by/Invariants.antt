use Rattle.std.proofs.Common.{◌≡◌, ◌&&◌, Bool, map, take, drop, length, ◌++◌, if◌then◌else◌, true}
use Rattle.vz_rules.specs.World.{Submission, is_active}
use Rattle.vz_rules.specs.declared.entry.State.TheVariants.{Active, Past}
use Rattle.vz_state.proofs.flags.go_on_by.Given as goal

-- the submissions so far went on, and the others are as they were
abbrev pub invariant-loop-k : goal.invariant-loop-k
invariant-loop-k l =
    record {
      count : length l.submissions ≡ length l.initial.submissions;
      same : (p q : Submission → Bool) → l.becomes ≡ map p l.initial.submissions → l.replaced ≡ map q l.initial.submissions
          → l.submissions ≡ map (λ s. if p s then record s { state = Active; was_active = true } else (if is_active s && q s then record s { state = Past } else s)) (take l.k l.initial.submissions) ++ drop l.k l.initial.submissions;
    }
