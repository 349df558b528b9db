use Rattle.std.proofs.Common.{◌≡◌, ◌≤◌, ◌+◌, ℕ, Some, [], length, slice_get, vec_len, vec_capacity}
use Rattle.vz_returns.specs.Lent.{Lent}
use Rattle.vz_returns.proofs.lenders.Lenders.new.Given as goal

-- those so far have lent nothing
abbrev pub invariant-loop-k : goal.invariant-loop-k
invariant-loop-k l =
    (length l.lenders.items ≡ l.k)
    × (vec_len l.lenders ≡ l.k)
    × (l.clients ≤ vec_capacity l.lenders)
    × ((n : ℕ) (x : Lent) → slice_get l.lenders.items n ≡ Some x
    → (x.holding ≡ record { client = n + 1; counted = []; queue = [] }) × (x.released ≡ []))
