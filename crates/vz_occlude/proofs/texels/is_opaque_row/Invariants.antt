use Rattle.std.proofs.Common.{◌≡◌, ◌+◌, ◌-◌}
use Rattle.vz_occlude.specs.Rows.{is_opaque_row}
use Rattle.vz_occlude.proofs.texels.is_opaque_row.Given as goal

abbrev pub invariant-loop-k : goal.invariant-loop-k
invariant-loop-k l =
    is_opaque_row l.block l.count l.column l.row ≡ is_opaque_row l.block (l.count - l.k) (l.column + l.k) l.row
