use Rattle.std.proofs.Common.{◌≤◌}
use Rattle.indexmap.specs.IndexMap.{get, spare as spare_of}
use Rattle.vz_ids.specs.Ids.{same_sub}
use Rattle.vz_deadlines.proofs.Found_at.{AreNumbered}
use Rattle.vz_deadlines.proofs.numbers.number_all.Given as goal

-- so many are numbered
abbrev pub invariant-loop-place : goal.invariant-loop-place
invariant-loop-place l = AreNumbered (get same_sub l.places) l.slots l.place × (spare_of l.fn.places ≤ spare_of l.places)
