use Rattle.std.proofs.Common.{◌≡◌, length, take}
use Rattle.viz_run.specs.Read.{texts, contents}
use Rattle.viz_run.proofs.Gathering.{HasRead}
use Rattle.viz_run.proofs.named_files.read_files.Given as goal

-- the files of the first names were read
abbrev pub invariant-loop-name : goal.invariant-loop-name
invariant-loop-name g l =
    HasRead l.limit (texts (take l.name-index l.names)) (contents l.files.items) (g.F.Shelf.shelved l.initial.shelf) (g.F.Shelf.shelved l.shelf)
    × (length l.files.items ≡ l.name-index)
