use Rattle.std.proofs.Common.{◌≡◌, ◌≤◌, None, if◌then◌else◌, take}
use Rattle.indexmap.specs.IndexMap.{get, spare as spare_of}
use Rattle.vz_ids.specs.declared.Sub.{Sub}
use Rattle.vz_ids.specs.Ids.{same_sub}
use Rattle.vz_rules.specs.World.{has_sub}
use Rattle.vz_deadlines.proofs.numbers.forget_all.Given as goal

-- those so far are told no slot, and the others the same
abbrev pub invariant-loop-s : goal.invariant-loop-s
invariant-loop-s l = ((t : Sub) → get same_sub l.places t ≡ if has_sub (take l.s-index l.list) t then None else get same_sub l.fn.places t) × (spare_of l.fn.places ≤ spare_of l.places)
