use Rattle.std.proofs.Common.{◌≡◌, ◌≤◌, ◌<◌, ℕ, Some, [], length, drop, slice_get}
use Rattle.vz_rules.specs.{World.World, Kept.KeepsAlways}
use Rattle.vz_returns.specs.Lent.{Lent, AreLent, resources_out}
use Rattle.vz_returns.proofs.Returns_to_all.{GivenTo}
use Rattle.vz_returns.proofs.lenders.give_back_each.Given as goal

-- it is given back to those so far
abbrev pub invariant-loop-k : goal.invariant-loop-k
invariant-loop-k l =
    ((w : World) → KeepsAlways w → AreLent w l.fn.lenders → GivenTo w l.k l.lenders l.fn.out.list l.out.list)
    × ((w : World) × KeepsAlways w × AreLent w l.fn.lenders)
    × (length l.lenders ≡ length l.fn.lenders)
    × ((n : ℕ) → l.k ≤ n → slice_get l.lenders n ≡ slice_get l.fn.lenders n)
    × ((n : ℕ) (x : Lent) → n < l.k → slice_get l.lenders n ≡ Some x → x.released ≡ [])
    × (resources_out (drop l.k l.lenders) ≤ l.out.spare)
    × (resources_out l.lenders ≤ resources_out l.fn.lenders)
    × (l.k ≤ length l.fn.lenders)
