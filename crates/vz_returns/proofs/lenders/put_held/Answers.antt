use Rattle.std.proofs.Common.{◌+◌, ◌++◌, length, drop, ap, sym, ◌∙◌, arith}
use Rattle.std.specs.List.{flat_map}
use Rattle.std.proofs.lemmas.List.{append_assoc}
use Rattle.vz_returns.specs.{Held.held, Lent.Lent}
use Rattle.vz_returns.proofs.{Listings.left_next, Lent_rooms.out_left}
use Rattle.vz_returns.proofs.lenders.put_held.Goals as goal

pub held-requires : goal.held-requires
held-requires c =
    let x = c.lender-item.result in
    omega (
      arith,
      c.loop-lender.invariant.1,
      out_left c.args.lenders.now c.loop-lender.lender-index x c.loop-lender-test.true,
      ap
          (λ l. length l.holding.counted) c.lender-item.is,
    )

pub loop-lender-preserved : goal.loop-lender-preserved
loop-lender-preserved c =
    let L = c.args.lenders.now in
    let k = c.loop-lender.lender-index in
    let x = c.lender-item.result in
    let i = c.loop-lender.invariant in
    let rest = flat_map (λ (y : Lent). held y.holding) (drop (k + 1) L) in (
      ap (λ l. l ++ rest) c.held.ensures.out ∙ (append_assoc c.loop-lender.out.list (held x.holding) rest
          ∙ (ap (λ y. c.loop-lender.out.list ++ (held y.holding ++ rest)) c.lender-item.is
          ∙ (sym (ap (λ l. c.loop-lender.out.list ++ flat_map (λ (y : Lent). held y.holding) l) (left_next L k x c.loop-lender-test.true))
          ∙ i.0))),
      omega (arith, i.1, out_left L k x c.loop-lender-test.true, ap (λ l. length l.holding.counted) c.lender-item.is, c.held.ensures.room),
    )
