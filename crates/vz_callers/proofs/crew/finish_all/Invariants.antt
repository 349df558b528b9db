use Rattle.std.specs.Prelude.{All}
use Rattle.std.proofs.Common.{◌≡◌, ◌+◌, ◌≤◌, ◌++◌, length, vec_len, vec_capacity}
use Rattle.atomic_table.specs.Seated.{TableId}
use Rattle.vz_rules.specs.Plan.{Plan}
use Rattle.vz_callers.specs.Crews.{numbers_of, numbers_at_work, IsAtWork, IsGoing, IsBack, Each}
use Rattle.vz_callers.proofs.crew.finish_all.Given as goal

abbrev pub invariant-loop-one : goal.invariant-loop-one
invariant-loop-one g l = record {
  numbers : numbers_of l.passes.items ++ numbers_at_work l.started.items ≡ numbers_at_work l.fn.started.items;
  going : Each (λ gate. (id : TableId) (p : Plan) → IsGoing g.G.Gate.told gate id p l.messages l.fn.started.items → All (IsAtWork g.G.Gate.told gate id p) l.started.items);
  back : Each (λ gate. (id : TableId) (p : Plan) → IsGoing g.G.Gate.told gate id p l.messages l.fn.started.items → IsBack (g.G.Gate.told gate) id p l.messages l.passes.items l.all);
  room : vec_len l.passes + vec_len l.started ≤ vec_capacity l.passes;
  count : vec_len l.passes + vec_len l.started ≡ vec_len l.fn.started;
  same : vec_capacity l.passes ≡ vec_capacity l.initial.passes;
}

abbrev pub decreases-loop-one : goal.decreases-loop-one
decreases-loop-one g l = length l.started.items
