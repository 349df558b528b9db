use Rattle.std.proofs.Common.{◌≡◌, ◌≤◌, map, take, length, vec_len, vec_capacity}
use Rattle.vz_frame.specs.declared.message.ClientFile.{ClientFile}
use Rattle.vz_support.proofs.opening.sinks_of.Given as goal

-- the sinks of the files so far, and room for the others
abbrev pub invariant-loop-file : goal.invariant-loop-file
invariant-loop-file l =
    (l.sinks.items ≡ map (λ (f : ClientFile). f.sink) (take l.file-index l.files))
    × (vec_len l.sinks ≡ l.file-index)
    × (length l.files ≤ vec_capacity l.sinks)
