use Rattle.std.proofs.Common.{rules, ◌∙◌, sym}
use Rattle.vz_pixels.specs.Colour.{IsPremultiplied}
use Rattle.vz_kernel.proofs.Wholes.{tint_none, tint_whole, tint_by}
use Rattle.vz_kernel.proofs.rows.over_fill.Goals as goal

pub returns-in-0 : goal.returns-in-0
returns-in-0 c =
    let good : IsPremultiplied c.args.c = search rules in
    tint_none c.args.c c.args.dst.now good (sym c.a.ensures ∙ c.in-0.is)

pub returns-in-255 : goal.returns-in-255
returns-in-255 c = c.fill.ensures.after (λ y h. h) ∙ tint_whole c.args.c c.args.dst.now (sym c.a.ensures ∙ c.in-255.is)

pub returns-in_default : goal.returns-in_default
returns-in_default c = c.change_row.ensures ∙ tint_by c.args.c c.args.dst.now
