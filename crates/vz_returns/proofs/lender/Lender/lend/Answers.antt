use Rattle.std.proofs.Common.{◌≡◌, subst, ap, ◌∙◌, arith}
use Rattle.std.specs.Prelude.{OnOk, Result}
use Rattle.vz_returns.specs.{Held.is_rising, Held.lent, Lent.all_alive}
use Rattle.vz_returns.proofs.{Orders.rising_put, Totals.all_lent}
use Rattle.vz_returns.proofs.lender.Lender.lend.Goals as goal

pub invariant_of-self : goal.invariant_of-self
invariant_of-self c =
    let h = c.self.inside.holder.holding in
    let room = ap (λ v. v.places) c.self.view_is in
    let lends = subst (λ (r : Result _ _). OnOk r (c.lend.new.self.holding ≡ lent c.args.id h)) c.unwrap.ensures c.lend.ensures.holding in (
      omega (arith, c.self.invariant.0, ap (λ x. all_alive x.counted) lends, all_lent c.args.id h c.self.invariant.2),
      omega (arith, c.self.invariant.1, room, c.requires.places),
      ap (λ x. is_rising x.counted) lends ∙ rising_put _ h.counted c.self.invariant.2,
    )
