use Rattle.std.proofs.Common.{ap, sym, length, arith}
use Rattle.vz_returns.proofs.Releases_in_turn.{fewer_left, none_less}
use Rattle.vz_returns.proofs.lender.give_back_one.Goals as goal

-- it goes back: one resource fewer is out
pub put-requires : goal.put-requires
put-requires c =
    let h = c.args.holder.now.holding in
    omega (
      arith,
      c.requires.room,
      fewer_left c.args.id h c.in-Some.returned (sym c.in-Some.ensures.value) c.requires.rising
          c.requires.alive,
    )

pub returns-in-Some-clause-room : goal.returns-in-Some-clause-room
returns-in-Some-clause-room c =
    let h = c.args.holder.now.holding in
    let fewer = fewer_left c.args.id h c.in-Some.returned (sym c.in-Some.ensures.value) c.requires.rising c.requires.alive in
    let same = ap (λ x. length x.counted) c.release.ensures.holding in
    omega (arith, fewer, same, c.put.ensures.spare)

-- another is alive
pub returns-in_default-clause-room : goal.returns-in_default-clause-room
returns-in_default-clause-room c =
    omega (
      arith,
      ap (λ x. length x.counted) c.release.ensures.holding,
      none_less c.args.id c.args.holder.now.holding c.requires.rising
          c.requires.alive,
    )
