use Rattle.std.proofs.Common.{◌≡◌, ◌<◌, ◌+◌, [], length, get_or, ◌∙◌, arith}
use Rattle.vz_returns.proofs.{Steps.at_others, Lent_rooms.by_place, Lent_rooms.out_left, Lent_rooms.out_more, Lent_rooms.length_set}
use Rattle.vz_returns.proofs.Returns_to_all.{given_next, given_all, item_there, item_enough, out_behind, later_other, earlier_other, all_none}
use Rattle.vz_returns.proofs.lenders.give_back_each.Goals as goal

pub give_back-requires-clause-suffice : goal.give_back-requires-clause-suffice
give_back-requires-clause-suffice c =
    let i = c.loop-k.invariant in
    let k = c.loop-k.k in
    let old = c.args.lenders.now in
    let at = item_there c.loop-k.lenders k c.index-lenders-k.result (omega (arith, i.2, c.loop-k-test.true, c.loop-k.auto.k-end)) in
    item_enough i.1.0 old c.loop-k.lenders k _ i.1.2 (i.3 k (omega arith)) at

pub give_back-requires-clause-room : goal.give_back-requires-clause-room
give_back-requires-clause-room c =
    let i = c.loop-k.invariant in
    omega (
      arith,
      i.5,
      out_left c.loop-k.lenders c.loop-k.k c.index-lenders-k.result
          (omega (arith, i.2, c.loop-k-test.true, c.loop-k.auto.k-end)),
    )

pub loop-k-preserved : goal.loop-k-preserved
loop-k-preserved c =
    let i = c.loop-k.invariant in
    let k = c.loop-k.k in
    let now = c.loop-k.lenders in
    let old = c.args.lenders.now in
    let o = get_or now k c.index-lenders-k.result in
    let new = c.give_back.new.self in
    let e = c.give_back.ensures in
    let inside : k < length now = omega (arith, i.2, c.loop-k-test.true, c.loop-k.auto.k-end) in
    let at = item_there now k c.index-lenders-k.result inside in (
      λ w always lent. given_next w old now k o new c.args.out.now.list c.loop-k.out.list _ always lent (i.3 k (omega arith)) at e.given
          e.released (i.0 w always lent),
      i.1,
      length_set now k new ∙ i.2,
      λ n over. at_others now k n new (later_other n k over) ∙ i.3 n (omega (arith, over)),
      λ n x low is.
          by_place (λ m y. m < k + 1 → y.released ≡ []) now k o new at (λ l. e.released) (λ m y f p l. i.4 m y (earlier_other m k f l) p) n
          x is low,
      omega (arith, i.5, out_left now k c.index-lenders-k.result inside, out_behind now k new, e.room),
      omega (arith, i.6, out_more now k 0 o new at (omega (arith, e.fewer))),
      omega (arith, i.7, inside, i.2),
    )

pub returns-clause-returned : goal.returns-clause-returned
returns-clause-returned c = λ w always lent.
    let i = c.loop-k.invariant in
    (given_all w c.args.lenders.now c.loop-k.lenders c.loop-k.k _ _ lent i.2 (omega (arith, c.loop-k-test.false, c.loop-k.auto.k-end)) i.7
    (i.0 w always lent)).0

pub returns-clause-lent : goal.returns-clause-lent
returns-clause-lent c = λ w always lent.
    let i = c.loop-k.invariant in
    (given_all w c.args.lenders.now c.loop-k.lenders c.loop-k.k _ _ lent i.2 (omega (arith, c.loop-k-test.false, c.loop-k.auto.k-end)) i.7
    (i.0 w always lent)).1

pub returns-clause-released : goal.returns-clause-released
returns-clause-released c = all_none c.loop-k.lenders c.loop-k.k (omega (arith, c.loop-k.invariant.2, c.loop-k-test.false))
    c.loop-k.invariant.4
