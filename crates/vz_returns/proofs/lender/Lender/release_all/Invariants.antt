use Rattle.std.proofs.Common.{◌≡◌, ◌++◌, drop}
use Rattle.vz_returns.specs.{Lent.Suffice, Listed.ids_of}
use Rattle.vz_returns.proofs.lender.Lender.release_all.Given as goal

-- those so far are released
abbrev pub invariant-loop-listing : goal.invariant-loop-listing
invariant-loop-listing l =
    (l.self.holding ≡ l.fn.self.holding)
    × (l.self.released ++ ids_of (drop l.listing-index l.listings) ≡ l.fn.self.released ++ ids_of l.listings)
    × Suffice (l.fn.self.released ++ ids_of l.listings) l.fn.self.holding
    × (l.self.spare ≡ l.fn.self.spare)
    × (l.self.places ≡ l.fn.self.places)
