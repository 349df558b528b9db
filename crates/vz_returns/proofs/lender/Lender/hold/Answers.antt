use Rattle.std.proofs.Common.{ap, ◌∙◌, arith}
use Rattle.vz_returns.specs.{Held.is_rising, Lent.all_alive}
use Rattle.vz_returns.proofs.{Orders.rising_put, Totals.all_shared}
use Rattle.vz_returns.proofs.lender.Lender.hold.Goals as goal

pub invariant_of-self : goal.invariant_of-self
invariant_of-self c =
    let h = c.self.inside.holder.holding in
    let room = ap (λ v. v.places) c.self.view_is in (
      omega (arith, c.self.invariant.0, ap (λ x. all_alive x.counted) c.hold.ensures.holding, all_shared c.args.id h c.self.invariant.2),
      omega (arith, c.self.invariant.1, room, c.requires.places),
      ap (λ x. is_rising x.counted) c.hold.ensures.holding ∙ rising_put _ h.counted c.self.invariant.2,
    )
