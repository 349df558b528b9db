use Rattle.std.proofs.Common.{◌-◌, arith}
use Rattle.vz_scene.proofs.Ties.{shown_more}
use Rattle.vz_scene.proofs.index.shown_of.Goals as goal

pub loop-k-preserved : goal.loop-k-preserved
loop-k-preserved c =
    record {
      within = omega arith;
      has = shown_more c.loop-k.shown c.insert.new.self c.args.pairs.now c.loop-k.k (c.loop-k.k - 1) _ (omega arith) (omega arith) c.in_ok-insert.ensures.updates.0 c.loop-k.invariant.has;
    }
