use Rattle.std.proofs.Common.{◌≡◌, ◌≤◌, ◌<◌, ℕ, Some, slice_get}
use Rattle.vz_returns.specs.Lent.{Lent, AreRoomier}
use Rattle.vz_returns.proofs.lenders.make_places.Given as goal

-- those so far have the places
abbrev pub invariant-loop-k : goal.invariant-loop-k
invariant-loop-k l = AreRoomier l.fn.lenders l.lenders × ((m : ℕ) (x : Lent) → m < l.k → slice_get l.lenders m ≡ Some x → l.n ≤ x.places)
