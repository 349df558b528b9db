use Rattle.std.proofs.Common.{◌≡◌, ◌≤◌, ◌+◌, false, length, drop}
use Rattle.vz_returns.specs.{Lent.Suffice, Lent.AreCountable, Lent.shared_all, Listed.ids_of, Listed.lists_twice}
use Rattle.vz_returns.proofs.lender.Lender.hold_all.Given as goal

-- those so far are done
abbrev pub invariant-loop-listing : goal.invariant-loop-listing
invariant-loop-listing l =
    (shared_all (ids_of (drop l.listing-index l.listings)) l.self.holding ≡ shared_all (ids_of l.listings) l.fn.self.holding)
    × (l.self.released ≡ l.fn.self.released)
    × (l.fn.self.places ≡ l.self.places + l.listing-index)
    × (lists_twice (drop l.listing-index l.listings) ≡ false)
    × AreCountable (ids_of (drop l.listing-index l.listings)) l.self.holding
    × (length l.listings ≤ l.fn.self.places)
    × (l.fn.self.spare ≤ l.self.spare)
    × Suffice (ids_of (drop l.listing-index l.listings)) l.self.holding
