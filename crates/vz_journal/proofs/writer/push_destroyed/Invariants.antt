use Rattle.std.proofs.Common.{◌≡◌, ◌++◌, take, string_bytes}
use Rattle.std.specs.List.{flat_map}
use Rattle.vz_rules.specs.Log.{destroyed_text}
use Rattle.vz_journal.proofs.writer.push_destroyed.Given as goal

-- the text so far
abbrev pub invariant-loop-lost : goal.invariant-loop-lost
invariant-loop-lost l = string_bytes l.out ≡ string_bytes l.initial.out ++ flat_map destroyed_text (take l.lost-index l.surfaces)
