use Rattle.std.proofs.Common.{◌≡◌, length}
use Rattle.std.specs.Vec.Iter.{into_iter_items, into_iter_len}
use Rattle.viz_run.specs.Read.{contents}
use Rattle.viz_run.proofs.Accepts.{IsUnder}
use Rattle.viz_run.proofs.client_files.accepted_files.Given as goal

-- the answers that are left are those of the inputs behind the accepted ones
abbrev pub invariant-loop-answer : goal.invariant-loop-answer
invariant-loop-answer l =
    IsUnder (contents l.inputs) l.files.items (into_iter_items l.answer-iterator)
    × (into_iter_len l.answer-iterator ≡ length (into_iter_items l.answer-iterator))
