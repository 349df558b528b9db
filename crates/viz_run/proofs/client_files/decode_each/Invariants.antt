use Rattle.std.proofs.Common.{◌≡◌, ℕ, ◌<◌, [], length, get_or, Result}
use Rattle.vz_frame.specs.declared.message.ClientFile.{ClientFile}
use Rattle.viz_run.specs.declared.refused.InputError.{InputError}
use Rattle.viz_run.specs.Decoded.{IsDecoded}
use Rattle.viz_run.specs.Read.{contents}
use Rattle.viz_run.proofs.client_files.decode_each.Given as goal

-- the answers so far are those of the first inputs
abbrev pub invariant-loop-place : goal.invariant-loop-place
invariant-loop-place l =
    (length l.answers.items ≡ l.place)
    × ((i : ℕ) (e : Result ClientFile InputError) → i < l.place → IsDecoded i (get_or (contents l.inputs) i []) (get_or l.answers.items i e))
