use Rattle.std.proofs.Common.{◌≡◌, ◌≤◌, ◌++◌, map, drop, vec_len, vec_capacity}
use Rattle.vz_paint.specs.Choice.{seen}
use Rattle.vz_paint.proofs.choice.choose.Given as goal

-- what is chosen so far, and what will be of the rest
abbrev pub invariant-loop-op : goal.invariant-loop-op
invariant-loop-op l =
    (vec_capacity l.chosen ≡ vec_capacity l.fn.chosen)
    × (vec_len l.chosen ≤ l.op-index)
    × (l.hidden ≤ l.op-index)
    × ((map (λ r. r.now) l.chosen.items ++ seen l.part l.hidden (drop l.op-index l.ops)) ≡ seen l.part 0 l.ops)
