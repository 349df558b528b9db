use Rattle.std.proofs.Common.{◌≡◌, ◌+◌, ◌-◌}
use Rattle.vz_occlude.specs.Rows.{are_opaque_rows}
use Rattle.vz_occlude.proofs.texels.are_opaque_rows.Given as goal

abbrev pub invariant-loop-k : goal.invariant-loop-k
invariant-loop-k l =
    are_opaque_rows l.block l.count l.width l.column l.row ≡ are_opaque_rows l.block (l.count - l.k) l.width l.column (l.row + l.k)
