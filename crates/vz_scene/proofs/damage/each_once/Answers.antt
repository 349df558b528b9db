use Rattle.vz_scene.proofs.Ties.{once_added, once_again, once_seen, still_seen}
use Rattle.vz_scene.proofs.damage.each_once.Goals as goal

pub loop-pair-preserved : goal.loop-pair-preserved
loop-pair-preserved c =
    let old = c.loop-pair.once.items in
    let pairs = c.args.pairs.now in
    let k = c.loop-pair.pair-index in
    record {
      added = once_added _ old c.push.new.self.items pairs c.loop-pair.seen k _ c.in_ok-insert.field-0 c.in_ok-push.ensures.items c.loop-pair-test.true c.in_ok-insert.ensures.added c.if-not-branch.false
          c.loop-pair.invariant.seen c.loop-pair.invariant.added;
      seen = once_seen old c.push.new.self.items pairs c.loop-pair.seen c.insert.new.self k _ c.in_ok-push.ensures.items c.in_ok-insert.ensures.updates.0 c.loop-pair.invariant.seen;
    }

pub loop-pair-preserved-then-not-branch : goal.loop-pair-preserved-then-not-branch
loop-pair-preserved-then-not-branch c =
    let once = c.loop-pair.once.items in
    let pairs = c.args.pairs.now in
    let fresh = c.in_ok-insert.field-0 in
    record {
      added = once_again _ once pairs c.loop-pair.seen c.loop-pair.pair-index _ fresh c.loop-pair-test.true c.in_ok-insert.ensures.added c.if-not-branch.true c.loop-pair.invariant.seen c.loop-pair.invariant.added;
      seen = still_seen once c.loop-pair.seen c.insert.new.self fresh c.in_ok-insert.ensures.unchanged c.if-not-branch.true c.loop-pair.invariant.seen;
    }
