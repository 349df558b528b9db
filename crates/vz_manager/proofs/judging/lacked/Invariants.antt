use Rattle.std.proofs.Common.{◌≡◌, ◌≤◌, ◌+◌, ◌++◌, not, filter, take}
use Rattle.vz_rules.specs.Plan.{Plan}
use Rattle.vz_rules.specs.World.{World}
use Rattle.vz_rules.specs.Settle.{is_met}
use Rattle.vz_manager.specs.Judging.{AreAsked}
use Rattle.vz_manager.proofs.judging.lacked.Given as goal

-- those so far that are not met were put, each into one place
abbrev pub invariant-loop-d : goal.invariant-loop-d
invariant-loop-d l =
    ((p : Plan) (w : World) → AreAsked p w l.support l.live
    → l.out.list ≡ l.fn.out.list ++ filter (λ d. not (is_met w d)) (take l.d-index l.dependencies))
    × (l.fn.out.spare ≤ l.out.spare + l.d-index)
