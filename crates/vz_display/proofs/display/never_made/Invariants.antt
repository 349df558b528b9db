use Rattle.std.proofs.Common.{◌≡◌, replicate, None}
use Rattle.vz_display.proofs.display.never_made.Given as goal

abbrev pub invariant-loop : goal.invariant-loop
invariant-loop l = l.kept.items ≡ replicate l.counter None
