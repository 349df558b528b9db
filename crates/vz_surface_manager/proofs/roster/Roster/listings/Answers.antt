use Rattle.std.proofs.Common.{arith}
use Rattle.vz_surface_manager.proofs.Listing_counts.{count_next, count_none}
use Rattle.vz_surface_manager.proofs.roster.Roster.listings.Goals as goal

pub returns-in-None : goal.returns-in-None
returns-in-None c =
    omega (
      arith,
      c.loop-k.invariant,
      count_next c.args.self.now c.loop-k.k (c.get.result.0, c.get.result.1.now) c.get.ensures,
      c.in-None.ensures,
    )

pub loop-k-preserved : goal.loop-k-preserved
loop-k-preserved c =
    omega (
      arith,
      c.loop-k.invariant,
      count_next c.args.self.now c.loop-k.k (c.get.result.0, c.get.result.1.now) c.get.ensures,
      c.in-Some.ensures.1,
    )

pub returns : goal.returns
returns c =
    omega (arith, c.loop-k.invariant, count_none c.args.self.now c.loop-k.k (omega (arith, c.loop-k-test.false, c.len-k-end.ensures)))
