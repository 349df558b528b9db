use Rattle.std.proofs.Common.{◌≡◌, length, ◌∷◌, []}
use Rattle.vz_ids.specs.Ids.{same_sink}
use Rattle.vz_rules.specs.Closure.{closure}
use Rattle.vz_rules.specs.Messages.{children}
use Rattle.vz_state.proofs.sinks.reached.Given as goal

-- so many steps are left
abbrev pub invariant-loop-left : goal.invariant-loop-left
invariant-loop-left l = closure same_sink (children l.relations) (length l.relations) (l.fn.a ∷ []) ≡ closure same_sink (children l.relations) l.left l.sinks.items

abbrev pub decreases-loop-left : goal.decreases-loop-left
decreases-loop-left l = l.left
