use Rattle.std.proofs.Common.{drop}
use Rattle.std.specs.Map.{keys_of}
use Rattle.vz_refs.specs.Lasting.{over_at, surface_in, numbers_in, AreWithin, Ends}
use Rattle.vz_refs.proofs.Ticking.{AreAhead}
use Rattle.vz_refs.proofs.temporaries.end_all.Given as goal

-- those that are to end last until the ticks that are left
abbrev pub invariant-loop-at : goal.invariant-loop-at
invariant-loop-at l = Ends (over_at l.tick) l.fn.seats l.seats × AreWithin (surface_in l.seats) (numbers_in l.numbers) × AreAhead l.tick l.seats (drop l.at (keys_of l.numbers.entries))
