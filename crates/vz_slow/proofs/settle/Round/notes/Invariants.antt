use Rattle.std.proofs.Common.{◌≡◌, map, filter, take}
use Rattle.vz_rules.specs.Settle.{is_ready}
use Rattle.vz_state.specs.Rising.{risen_of}
use Rattle.vz_slow.proofs.settle.Round.notes.Given as goal

-- what was noted of the submissions so far
abbrev pub invariant-loop-submission : goal.invariant-loop-submission
invariant-loop-submission l =
    record {
      becomes : l.becomes.items ≡ map (is_ready l.self) (take l.submission-index l.self.subs);
      risen : l.risen.items ≡ map (risen_of l.self.surfaces) (filter (is_ready l.self) (take l.submission-index l.self.subs));
    }
