use Rattle.std.proofs.Common.{◌≡◌, ◌++◌, take, string_bytes}
use Rattle.std.specs.List.{flat_map}
use Rattle.vz_rules.specs.Log.{fed_text}
use Rattle.vz_journal.proofs.writer.push_fed.Given as goal

-- the text so far
abbrev pub invariant-loop-fed : goal.invariant-loop-fed
invariant-loop-fed l = string_bytes l.out ≡ string_bytes l.initial.out ++ flat_map fed_text (take l.fed-index l.feedback)
