use Rattle.std.proofs.Common.{◌≡◌, take}
use Rattle.vz_display.specs.Displayed.{upto_most}
use Rattle.viz_run.specs.Lines.{return_count}
use Rattle.viz_run.proofs.lines.return_count.Given as goal

abbrev pub invariant-loop-entry : goal.invariant-loop-entry
invariant-loop-entry l = l.count ≡ upto_most (return_count (take l.entry-index l.history))
