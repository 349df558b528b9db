use Rattle.std.proofs.Common.{◌≡◌, take}
use Rattle.std.specs.List.{sum_by}
use Rattle.vz_desk.specs.Totals.{upto_most}
use Rattle.vz_desk.proofs.note.counted.Given as goal

abbrev pub invariant-loop-returned : goal.invariant-loop-returned
invariant-loop-returned l = l.count ≡ upto_most (sum_by (λ r. r.count) (take l.returned-index l.returns))
