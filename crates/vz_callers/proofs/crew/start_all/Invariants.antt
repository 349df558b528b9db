use Rattle.std.specs.Prelude.{All}
use Rattle.std.proofs.Common.{◌≡◌, ◌+◌, ◌≤◌, ◌++◌, length, vec_len, vec_capacity}
use Rattle.vz_rules.specs.Plan.{Plan}
use Rattle.vz_callers.specs.{Callers.HasCalled, Crews.numbers_of, Crews.numbers_at_work, Crews.IsAtWork, Crews.IsCrew}
use Rattle.vz_callers.proofs.crew.start_all.Given as goal

abbrev pub invariant-loop-pass : goal.invariant-loop-pass
invariant-loop-pass g l = record {
  numbers : numbers_of l.passes.items ++ numbers_at_work l.started.items ≡ numbers_of l.fn.passes.items;
  waiting : (p : Plan) → IsCrew (g.G.Gate.told l.gate) l.hub.id p l.messages l.fn.passes.items → All (λ t. HasCalled (g.G.Gate.told l.gate) l.hub.id p t 0) l.passes.items;
  going : (p : Plan) → IsCrew (g.G.Gate.told l.gate) l.hub.id p l.messages l.fn.passes.items → All (IsAtWork g.G.Gate.told l.gate l.hub.id p) l.started.items;
  room : vec_len l.started + vec_len l.passes ≤ vec_capacity l.started;
  count : vec_len l.started + vec_len l.passes ≡ vec_len l.fn.passes;
  same : vec_capacity l.passes ≡ vec_capacity l.initial.passes;
}

abbrev pub decreases-loop-pass : goal.decreases-loop-pass
decreases-loop-pass g l = length l.passes.items
