use Rattle.std.proofs.Common.{◌∙◌, length, ap, sym}
use Rattle.std.specs.Prelude.{replicate}
use Rattle.vz_kernel.proofs.Wholes.{fade_none, fade_whole, fade_by}
use Rattle.vz_kernel.proofs.rows.dst_in_fill.Goals as goal

pub returns-in-0 : goal.returns-in-0
returns-in-0 c =
    c.fill.ensures.after (λ y h. h) ∙ ap (replicate (length c.args.dst.now)) c.transparent.ensures ∙ fade_none c.args.c c.args.dst.now (sym c.a.ensures ∙ c.in-0.is)

pub returns-in-255 : goal.returns-in-255
returns-in-255 c = fade_whole c.args.c c.args.dst.now (sym c.a.ensures ∙ c.in-255.is)

pub returns-in_default : goal.returns-in_default
returns-in_default c = c.change_row.ensures ∙ fade_by c.args.c c.a.result c.args.dst.now c.a.ensures
