use Rattle.std.proofs.Common.{◌≡◌, drop, not}
use Rattle.std.specs.List.{list_any}
use Rattle.vz_ids.specs.Ids.{is_good}
use Rattle.vz_frame.proofs.rules.has_bad_range.Given as goal

-- the answer is that of what is left
abbrev pub invariant-loop-range : goal.invariant-loop-range
invariant-loop-range l = list_any (λ range. not (is_good range)) l.ranges ≡ list_any (λ range. not (is_good range)) (drop l.range-index l.ranges)
