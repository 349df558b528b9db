use Rattle.std.proofs.Common.{◌≡◌, drop}
use Rattle.vz_ids.specs.Ids.{same_sink}
use Rattle.vz_rules.specs.Closure.{adding}
use Rattle.vz_state.proofs.sinks.add_all.Given as goal

-- those so far are added
abbrev pub invariant-loop-other : goal.invariant-loop-other
invariant-loop-other l = adding same_sink l.initial.sinks.items l.others ≡ adding same_sink l.sinks.items (drop l.other-index l.others)
