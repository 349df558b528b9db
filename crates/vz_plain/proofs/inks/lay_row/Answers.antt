use Rattle.std.proofs.Common.{◌-◌, length, get_or, arith}
use Rattle.vz_pixels.specs.Colour.{transparent}
use Rattle.vz_frame.specs.Blending.{laid}
use Rattle.vz_plain.proofs.Parted.{both_laid}
use Rattle.vz_plain.proofs.Mixed.{laid_past}
use Rattle.vz_plain.proofs.inks.lay_row.Goals as goal

pub returns-clause-each : goal.returns-clause-each
returns-clause-each c = λ i low.
    let a = c.args in
    both_laid (λ k d. laid a.mode (get_or a.source.now k transparent) a.opacity d) (length a.source.now - 0) (length a.source.now) a.row.now c.mix.new.row c.lay_colour.new.row
    (omega arith) c.requires c.mix.ensures.long c.mix.ensures.each c.lay_colour.ensures.long
    (λ k less. laid_past a.mode a.opacity a.source.now c.transparent.result _ _ k c.transparent.ensures (c.lay_colour.ensures.each k less))
    i low
