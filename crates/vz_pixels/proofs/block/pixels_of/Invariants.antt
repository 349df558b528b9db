use Rattle.std.proofs.Common.{◌≡◌, ◌≤◌}
use Rattle.std.specs.Prelude.{vec_len, vec_capacity}
use Rattle.vz_pixels.proofs.Bytes.{colours_upto}
use Rattle.vz_pixels.proofs.block.pixels_of.Given as goal

abbrev pub invariant-loop-k : goal.invariant-loop-k
invariant-loop-k l = (l.pixels.items ≡ colours_upto l.bytes l.k) × (vec_len l.pixels ≡ l.k) × (l.count ≤ vec_capacity l.pixels)
