use Rattle.std.proofs.Common.{◌≡◌, List}
use Rattle.vz_pixels.specs.Colour.{Colour}
use Rattle.vz_kernel.specs.Rows.{mixed_upto}
use Rattle.vz_kernel.proofs.walks.mix_rest.Given as goal

abbrev pub invariant-loop-i : goal.invariant-loop-i
invariant-loop-i g l =
    let f = g.M.Mix.mixed l.mix in
    (old : List Colour) → l.fn.dst ≡ mixed_upto f l.from l.src old → l.dst ≡ mixed_upto f l.i l.src old
