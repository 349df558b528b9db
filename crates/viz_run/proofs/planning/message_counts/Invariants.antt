use Rattle.std.proofs.Common.{◌≡◌, take}
use Rattle.viz_run.specs.Ran.{counts_of}
use Rattle.viz_run.proofs.planning.message_counts.Given as goal

-- the counts of the first files
abbrev pub invariant-loop-file : goal.invariant-loop-file
invariant-loop-file l = l.counts.items ≡ counts_of (take l.file-index l.files)
