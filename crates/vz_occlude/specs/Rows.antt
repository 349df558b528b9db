-- Texels of a block, row by row.
use Rattle.std.specs.Prelude.{ℕ, zero, suc, ◌+◌, Bool, true, ◌&&◌}
use Rattle.vz_pixels.specs.Block.{Block, texel}
use Rattle.vz_occlude.specs.Occluders.{is_opaque}

-- so many texels of a row, from a column on, are opaque
unfoldable pub is_opaque_row : Block → ℕ → ℕ → ℕ → Bool
is_opaque_row block zero column row = true
is_opaque_row block (suc n) column row = is_opaque (texel block column row) && is_opaque_row block n (column + 1) row

-- so many rows of w texels, from a column and a row on, are opaque
unfoldable pub are_opaque_rows : Block → ℕ → ℕ → ℕ → ℕ → Bool
are_opaque_rows block zero w column row = true
are_opaque_rows block (suc n) w column row = is_opaque_row block w column row && are_opaque_rows block n w column (row + 1)
