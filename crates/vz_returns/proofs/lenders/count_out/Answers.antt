use Rattle.std.proofs.Common.{length, ap, arith}
use Rattle.vz_returns.specs.Lent.{resources_out}
use Rattle.vz_returns.proofs.{Listings.left_none, Lent_rooms.out_left, Lent_rooms.out_none}
use Rattle.vz_returns.proofs.lenders.count_out.Goals as goal

pub loop-lender-preserved : goal.loop-lender-preserved
loop-lender-preserved c =
    omega (
      arith,
      c.loop-lender.invariant,
      out_left c.args.lenders.now c.loop-lender.lender-index c.lender-item.result c.loop-lender-test.true,
      ap (λ l. length l.holding.counted) c.lender-item.is,
      c.listed.ensures,
      c.in-Some.ensures.1,
    )

pub returns : goal.returns
returns c =
    omega (
      arith,
      c.loop-lender.invariant,
      ap resources_out
          (left_none c.args.lenders.now c.loop-lender.lender-index (omega (arith, c.loop-lender-test.false))),
      out_none,
    )
