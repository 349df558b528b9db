use Rattle.std.proofs.Common.{Some}
use Rattle.vz_frame.specs.Blending.{laid}
use Rattle.vz_rules.specs.Paint.{texel_of}
use Rattle.vz_plain.specs.Rows.{right_of}
use Rattle.vz_plain.proofs.Parted.{IsLaidUpto}
use Rattle.vz_plain.proofs.tile.lay_each.Given as goal

abbrev pub invariant-loop-k : goal.invariant-loop-k
invariant-loop-k l = IsLaidUpto (λ i d. laid l.mode (texel_of (Some l.block) (right_of l.first i)) l.opacity d) l.k l.fn.row l.row
