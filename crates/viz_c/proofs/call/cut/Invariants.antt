use Rattle.std.proofs.Common.{◌≡◌, ◌++◌, length, drop}
use Rattle.viz_run.specs.Read.{contents}
use Rattle.viz_c.specs.Calls.{cut}
use Rattle.viz_c.proofs.call.cut.Given as goal

-- what is left of the bytes has the files of the lengths that are left
abbrev pub invariant-loop-place : goal.invariant-loop-place
invariant-loop-place l =
    (length l.files.items ≡ l.place)
    × (contents l.files.items ++ cut (drop l.place l.lengths) l.rest ≡ cut l.lengths l.bytes)
