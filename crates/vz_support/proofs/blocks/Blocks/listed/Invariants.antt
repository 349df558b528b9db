use Rattle.std.proofs.Common.{◌≡◌, take}
use Rattle.vz_support.specs.Sent.{blocks_in}
use Rattle.vz_support.proofs.blocks.Blocks.listed.Given as goal

abbrev pub invariant-loop-listing : goal.invariant-loop-listing
invariant-loop-listing l = l.list.items ≡ blocks_in l.fn.self.blocks.entries (take l.listing-index l.fn.listings)
