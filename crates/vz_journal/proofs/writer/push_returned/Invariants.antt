use Rattle.std.proofs.Common.{◌≡◌, ◌++◌, take, string_bytes}
use Rattle.std.specs.List.{flat_map}
use Rattle.vz_rules.specs.Log.{returned_text}
use Rattle.vz_journal.proofs.writer.push_returned.Given as goal

-- the text so far
abbrev pub invariant-loop-back : goal.invariant-loop-back
invariant-loop-back l = string_bytes l.out ≡ string_bytes l.initial.out ++ flat_map returned_text (take l.back-index l.returns)
