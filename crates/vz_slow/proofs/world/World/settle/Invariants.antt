use Rattle.std.proofs.Common.{◌≡◌, ◌++◌}
use Rattle.vz_rules.specs.Settle.{settle, rounds, activated_in, activated_over}
use Rattle.vz_state.specs.Rising.{IsMetBy}
use Rattle.vz_slow.proofs.world.World.settle.Given as goal

-- what is left to do is so many rounds
abbrev pub invariant-loop-left : goal.invariant-loop-left
invariant-loop-left l =
    record {
      same : settle l.initial.self ≡ rounds l.left l.self;
      met : IsMetBy l.ever_active l.self.subs;
      active : activated_in l.initial.self ≡ l.all.items ++ activated_over l.left l.self;
    }

abbrev pub decreases-loop-left : goal.decreases-loop-left
decreases-loop-left l = l.left
