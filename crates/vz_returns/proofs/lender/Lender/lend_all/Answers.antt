use Rattle.std.proofs.Common.{refl, ◌∙◌, arith}
use Rattle.vz_returns.specs.{Held.lent, Lent.lent_all}
use Rattle.vz_returns.proofs.Listings.{done_next, once_next, countable_lent, next_countable, rest_countable}
use Rattle.vz_returns.proofs.lender.Lender.lend_all.Goals as goal

pub lend-requires-clause-countable : goal.lend-requires-clause-countable
lend-requires-clause-countable c = next_countable c.args.listings.now c.loop-listing.listing-index _ _ c.loop-listing-test.true c.loop-listing.invariant.4

pub loop-listing-preserved : goal.loop-listing-preserved
loop-listing-preserved c =
    let L = c.args.listings.now in
    let k = c.loop-listing.listing-index in
    let i = c.loop-listing.invariant in
    let inside = c.loop-listing-test.true in
    let e = c.lend.ensures in (
      done_next lent_all lent (λ id ids s. refl) L k _ _ _ _ inside i.0 e.holding,
      e.released ∙ i.1,
      omega (arith, i.2, e.places),
      once_next L k inside i.3,
      rest_countable lent countable_lent L k _ _ _ inside i.3 i.4 e.holding,
      i.5,
      omega (arith, i.6, e.spare),
      i.7,
    )
