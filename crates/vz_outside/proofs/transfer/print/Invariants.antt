use Rattle.std.proofs.Common.{length, ◌-◌}
use Rattle.vz_outside.proofs.Prints.{HasPrinted}
use Rattle.vz_outside.proofs.transfer.print.Given as goal

-- so much of the text was printed
abbrev pub invariant-loop-printed : goal.invariant-loop-printed
invariant-loop-printed g l = HasPrinted l.bytes l.printed (g.O.Sink.sunk l.initial.out) (g.O.Sink.sunk l.out)

abbrev pub decreases-loop-printed : goal.decreases-loop-printed
decreases-loop-printed g l = length l.bytes - l.printed
