use Rattle.std.proofs.Common.{sym, ◌∙◌}
use Rattle.vz_flat.proofs.Nested.{stays_fill, stays_blit, pushed, popped}
use Rattle.vz_flat.proofs.nesting.after.Goals as goal

pub returns-in-Fill : goal.returns-in-Fill
returns-in-Fill c = stays_fill c.args.nesting c.args.op.now c.in-Fill.area c.in-Fill.color c.in-Fill.opacity c.in-Fill.blend c.in-Fill.is c.requires

pub returns-in-Blit : goal.returns-in-Blit
returns-in-Blit c =
    stays_blit c.args.nesting c.args.op.now c.in-Blit.area c.in-Blit.block c.in-Blit.tx c.in-Blit.ty c.in-Blit.opacity c.in-Blit.blend c.in-Blit.is
    (sym c.is_inside.ensures ∙ c.if-not-is_inside.false) c.requires

pub returns-in-Push : goal.returns-in-Push
returns-in-Push c = pushed c.args.nesting c.args.op.now c.pushed.result c.in-Push.area c.in-Push.opacity c.in-Push.blend c.in-Push.is c.pushed.ensures

pub returns-in-Pop : goal.returns-in-Pop
returns-in-Pop c = popped c.args.nesting c.args.op.now c.popped.result c.in-Pop.is c.requires c.popped.ensures
