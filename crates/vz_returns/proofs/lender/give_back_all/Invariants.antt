use Rattle.std.proofs.Common.{◌≡◌, ◌≤◌, ◌+◌, ◌++◌, true, length, drop}
use Rattle.vz_returns.specs.{Held.is_rising, Released.release_all, Released.returns_in, Lent.Suffice}
use Rattle.vz_returns.proofs.lender.give_back_all.Given as goal

-- those so far are released
abbrev pub invariant-loop-id : goal.invariant-loop-id
invariant-loop-id l =
    (release_all (drop l.id-index l.ids) l.holder.holding ≡ release_all l.ids l.fn.holder.holding)
    × (l.out.list ++ returns_in (drop l.id-index l.ids) l.holder.holding ≡ l.fn.out.list ++ returns_in l.ids l.fn.holder.holding)
    × Suffice (drop l.id-index l.ids) l.holder.holding
    × (is_rising l.holder.holding.counted ≡ true)
    × (l.fn.out.spare + length l.holder.holding.counted ≤ l.out.spare + length l.fn.holder.holding.counted)
    × (length l.fn.holder.holding.counted ≤ l.fn.out.spare)
    × (l.fn.holder.spare ≤ l.holder.spare)
