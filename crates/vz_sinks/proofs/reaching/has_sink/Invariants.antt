use Rattle.std.proofs.Common.{◌≡◌, drop}
use Rattle.std.specs.List.{list_any}
use Rattle.vz_ids.specs.Ids.{same_sink}
use Rattle.vz_sinks.proofs.reaching.has_sink.Given as goal

-- the answer is that of what is left
abbrev pub invariant-loop-other : goal.invariant-loop-other
invariant-loop-other l = list_any (same_sink l.fn.sink) l.sinks ≡ list_any (same_sink l.fn.sink) (drop l.other-index l.sinks)
