use Rattle.std.proofs.Common.{length, ap, arith}
use Rattle.vz_slow.proofs.Attaching.{first_marked, next_fits, next_marked, fewer_left, reached_is}
use Rattle.vz_slow.proofs.attached.reached.Goals as goal

pub loop-at-init : goal.loop-at-init
loop-at-init c few = first_marked c.args.relations.now c.args.from few _ c.one-sinks.ensures

pub follow-requires : goal.follow-requires
follow-requires c = next_fits c.args.relations.now c.args.from c.requires c.loop-at.sinks c.loop-at.at _ (c.loop-at.invariant c.requires)

pub loop-at-smaller : goal.loop-at-smaller
loop-at-smaller c =
    fewer_left c.args.relations.now c.args.from c.requires c.loop-at.sinks c.loop-at.at (c.loop-at.invariant c.requires)
    (omega (arith, c.loop-at-test.true, ap length c.as_slice.ensures))

pub loop-at-preserved : goal.loop-at-preserved
loop-at-preserved c few =
    next_marked c.args.relations.now c.args.from few c.loop-at.sinks c.follow.new.self c.as_slice-in-loop-at.result.now c.loop-at.at _ (c.loop-at.invariant few) c.as_slice-in-loop-at.ensures
    (omega (arith, c.loop-at-test.true, ap length c.as_slice.ensures, ap length c.as_slice-in-loop-at.ensures)) c.follow.ensures

pub returns : goal.returns
returns c =
    reached_is c.args.relations.now c.args.from c.requires c.loop-at.sinks c.loop-at.at (c.loop-at.invariant c.requires)
    (omega (arith, c.loop-at-test.false, ap length c.as_slice.ensures))
