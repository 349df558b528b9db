use Rattle.std.proofs.Common.{◌≡◌, List}
use Rattle.vz_pixels.specs.Colour.{Colour}
use Rattle.vz_kernel.specs.Rows.{changed_upto}
use Rattle.vz_kernel.proofs.walks.change_rest.Given as goal

abbrev pub invariant-loop-i : goal.invariant-loop-i
invariant-loop-i g l =
    let f = g.C.Change.changed l.change in
    (old : List Colour) → l.fn.row ≡ changed_upto f l.from old → l.row ≡ changed_upto f l.i old
