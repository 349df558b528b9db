use Rattle.std.proofs.Common.{◌≡◌, ◌++◌, take, string_bytes}
use Rattle.std.specs.List.{flat_map}
use Rattle.vz_rules.specs.Log.{entry_text}
use Rattle.vz_journal.proofs.writer.push_entries.Given as goal

-- the text so far
abbrev pub invariant-loop-entry : goal.invariant-loop-entry
invariant-loop-entry l = string_bytes l.out ≡ string_bytes l.initial.out ++ flat_map entry_text (take l.entry-index l.history)
