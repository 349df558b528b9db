use Rattle.std.proofs.Common.{arith, ℕ, length-take, length-drop}
use Rattle.vz_outside.proofs.Pieces.{copied}
use Rattle.vz_outside.proofs.memory.copy_piece.Goals as goal

pub returns-clause-moved : goal.returns-clause-moved
returns-clause-moved c =
    copied c.args.next c.min-count.result c.args.bytes.now c.copy_from_slice.new.self _ c.copy_from_slice.ensures.after
    (omega (arith, c.min.ensures, c.min-count.ensures, length-take {A = ℕ}, length-drop {A = ℕ}))
