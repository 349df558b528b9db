use Rattle.std.proofs.Common.{◌≡◌, ◌++◌, take, string_bytes}
use Rattle.std.specs.List.{flat_map}
use Rattle.vz_rules.specs.Log.{held_text}
use Rattle.vz_journal.proofs.writer.push_held.Given as goal

-- the text so far
abbrev pub invariant-loop-reference : goal.invariant-loop-reference
invariant-loop-reference l = string_bytes l.out ≡ string_bytes l.initial.out ++ flat_map held_text (take l.reference-index l.held)
