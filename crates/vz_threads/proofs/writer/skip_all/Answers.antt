use Rattle.std.proofs.Common.{◌∙◌}
use Rattle.vz_threads.proofs.Through.{longer_taken}
use Rattle.vz_threads.proofs.writer.skip_all.Goals as goal

pub loop-preserved : goal.loop-preserved
loop-preserved g c =
    let taken = c.take.ensures in
    record {
      pipe = taken.pipe ∙ c.loop.invariant.pipe;
      longer = longer_taken c.take.result c.args.receiver.now.taken c.loop.receiver.taken c.take.new.self.taken taken.some taken.none c.loop.invariant.longer;
    }
