use Rattle.std.proofs.Common.{◌∙◌, ap, take_all, length}
use Rattle.viz_run.specs.Ran.{counts_of}
use Rattle.viz_run.proofs.Run_done.{counts_more}
use Rattle.viz_run.proofs.planning.message_counts.Goals as goal

pub loop-file-preserved : goal.loop-file-preserved
loop-file-preserved c =
    counts_more c.args.files.now c.loop-file.file-index c.file-item.result c.loop-file.counts.items c.push.new.self.items _
    c.loop-file-test.true c.file-item.is c.loop-file.invariant (ap length c.as_slice.ensures) c.in_ok-push.ensures.items

pub returns : goal.returns
returns c = record { counts = c.loop-file.invariant ∙ ap counts_of (take_all c.loop-file.file-index c.args.files.now c.loop-file-test.false) }
