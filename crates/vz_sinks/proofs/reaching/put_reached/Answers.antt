use Rattle.std.proofs.Common.{[], ◌∷◌, ◌++◌, length, ap, ◌∙◌, arith}
use Rattle.vz_sinks.proofs.Followed.{first_marked, next_fits, next_marked, fewer_left, reached_is}
use Rattle.vz_sinks.proofs.reaching.put_reached.Goals as goal

pub loop-at-init : goal.loop-at-init
loop-at-init c =
    let long = ap length (c.put.ensures.list ∙ ap (λ l. l ++ c.args.from ∷ []) c.requires.empty) in
    first_marked c.args.relations.now c.args.from c.put.new.self.list c.args.out.now.spare _ c.requires.room (omega (arith, c.put.ensures.spare, long))
    (c.put.ensures.list ∙ ap (λ l. l ++ c.args.from ∷ []) c.requires.empty)

pub follow-requires : goal.follow-requires
follow-requires c = next_fits c.args.relations.now c.args.from c.loop-at.out.list c.loop-at.at _ _ c.loop-at.invariant

pub loop-at-smaller : goal.loop-at-smaller
loop-at-smaller c = fewer_left c.args.relations.now c.args.from c.loop-at.out.list c.as_slice.result.now c.loop-at.at _ c.loop-at.invariant c.as_slice.ensures c.loop-at-test.true

pub loop-at-preserved : goal.loop-at-preserved
loop-at-preserved c =
    next_marked c.args.relations.now c.args.from c.loop-at.out.list c.follow.new.out.list c.as_slice-in-loop-at.result.now c.loop-at.at _ _ _ c.loop-at.invariant c.as_slice-in-loop-at.ensures
    (omega (arith, c.loop-at-test.true, ap length c.as_slice.ensures, ap length c.as_slice-in-loop-at.ensures)) c.follow.ensures.list c.follow.ensures.room

pub returns : goal.returns
returns c = reached_is c.args.relations.now c.args.from c.loop-at.out.list c.as_slice.result.now c.loop-at.at _ c.loop-at.invariant c.as_slice.ensures (omega (arith, c.loop-at-test.false))
