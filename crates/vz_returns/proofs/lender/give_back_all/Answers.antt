use Rattle.std.proofs.Common.{ap, ◌∙◌, arith}
use Rattle.vz_returns.specs.Held.{is_rising}
use Rattle.vz_returns.proofs.{Releases.rising_released, Releases_in_turn.released_next, Releases_in_turn.out_next, Releases_in_turn.rest_of_left}
use Rattle.vz_returns.proofs.lender.give_back_all.Goals as goal

pub loop-id-preserved : goal.loop-id-preserved
loop-id-preserved c =
    let ids = c.args.ids.now in
    let k = c.loop-id.id-index in
    let h = c.loop-id.holder.holding in
    let i = c.loop-id.invariant in
    let inside = c.loop-id-test.true in (
      released_next ids k 0 h _ _ inside i.0 c.give_back_one.ensures.holding,
      out_next ids k 0 h _ c.loop-id.out.list _ _ inside i.1 c.give_back_one.ensures.holding c.give_back_one.ensures.out,
      rest_of_left ids k 0 h _ inside i.2 c.give_back_one.ensures.holding,
      ap (λ x. is_rising x.counted) c.give_back_one.ensures.holding ∙ rising_released _ h i.3,
      omega (arith, i.4, c.give_back_one.ensures.room),
      i.5,
      omega (arith, i.6, c.give_back_one.ensures.spare),
    )
