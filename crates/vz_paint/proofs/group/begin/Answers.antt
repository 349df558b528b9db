use Rattle.std.proofs.Common.{◌∙◌, length, get_or, ap}
use Rattle.vz_pixels.specs.Colour.{transparent}
use Rattle.vz_paint.proofs.Grouped.{written}
use Rattle.vz_paint.proofs.group.begin.Goals as goal

pub returns-clause-long : goal.returns-clause-long
returns-clause-long c =
    let lent = c.as_mut_slice in
    let g = c.args.group.now in
    ap length (written c.clear.new.pixels g.pixels.items g.pixels.len (c.clear.ensures.long ∙ lent.ensures.len)) ∙ (c.clear.ensures.long ∙ ap length lent.ensures.value)

pub returns-clause-clear : goal.returns-clause-clear
returns-clause-clear c = λ k near.
    let lent = c.as_mut_slice in
    let g = c.args.group.now in
    ap (λ l. get_or l k transparent) (written c.clear.new.pixels g.pixels.items g.pixels.len (c.clear.ensures.long ∙ lent.ensures.len)) ∙ c.clear.ensures.clear k near
