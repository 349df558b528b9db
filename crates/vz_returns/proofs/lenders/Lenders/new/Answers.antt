use Rattle.std.proofs.Common.{rules, ◌≡◌, length, vec_len, arith}
use Rattle.vz_returns.proofs.Nothing_lent.{new_next, new_lent, new_released}
use Rattle.vz_returns.proofs.lenders.Lenders.new.Goals as goal

pub loop-k-preserved : goal.loop-k-preserved
loop-k-preserved c =
    let i = c.loop-k.invariant in
    let long : length c.push_reserved.new.self.items ≡ vec_len c.push_reserved.new.self = search rules in (
      omega (arith, long, i.1, c.push_reserved.ensures.len),
      omega (arith, i.1, c.push_reserved.ensures.len),
      omega (arith, i.2, c.push_reserved.ensures.capacity),
      new_next c.loop-k.lenders.items c.push_reserved.new.self.items c.loop-k.k c.new.result i.0 c.push_reserved.ensures.items
          c.new.ensures.client c.new.ensures.counted c.new.ensures.queue c.new.ensures.released i.3,
    )

pub returns-clause-lent : goal.returns-clause-lent
returns-clause-lent c = λ p long.
    new_lent p c.loop-k.lenders.items (omega (arith, long, c.loop-k.invariant.0, c.loop-k-test.false, c.loop-k.auto.k-end))
    c.loop-k.invariant.3

pub returns-clause-released : goal.returns-clause-released
returns-clause-released c = new_released c.loop-k.lenders.items c.loop-k.invariant.3
