use Rattle.std.proofs.Common.{◌≡◌, ◌++◌, take, string_bytes}
use Rattle.std.specs.List.{flat_map}
use Rattle.vz_rules.specs.Log.{activated_text}
use Rattle.vz_journal.proofs.writer.push_activated.Given as goal

-- the text so far
abbrev pub invariant-loop-sub : goal.invariant-loop-sub
invariant-loop-sub l = string_bytes l.out ≡ string_bytes l.initial.out ++ flat_map activated_text (take l.sub-index l.subs)
