use Rattle.vz_paint.proofs.Chosen.{fill_fate, blit_fate, push_fate, pop_fate}
use Rattle.vz_paint.proofs.choice.fate_of.Goals as goal

pub returns-in-Fill-clause-seen : goal.returns-in-Fill-clause-seen
returns-in-Fill-clause-seen c = fill_fate c.args.part.now c.args.hidden c.args.op.now c.in-Fill.area c.in-Fill.color c.in-Fill.opacity c.in-Fill.blend c.is_shown.result c.in-Fill.is c.is_shown.ensures

pub returns-in-Blit-clause-seen : goal.returns-in-Blit-clause-seen
returns-in-Blit-clause-seen c =
    blit_fate c.args.part.now c.args.hidden c.args.op.now c.in-Blit.area c.in-Blit.block c.in-Blit.tx c.in-Blit.ty c.in-Blit.opacity c.in-Blit.blend c.is_shown-in-Blit.result c.in-Blit.is c.is_shown-in-Blit.ensures

pub returns-in-Push-clause-seen : goal.returns-in-Push-clause-seen
returns-in-Push-clause-seen c =
    push_fate c.args.part.now c.args.hidden c.args.op.now c.in-Push.area c.in-Push.opacity c.in-Push.blend c.is_shown-in-Push.result c.begun.result.is_seen c.begun.result.hidden c.in-Push.is c.is_shown-in-Push.ensures c.begun.ensures.seen c.begun.ensures.hidden

pub returns-in-Pop-clause-seen : goal.returns-in-Pop-clause-seen
returns-in-Pop-clause-seen c = pop_fate c.args.part.now c.args.hidden c.args.op.now c.ended.result.is_seen c.ended.result.hidden c.in-Pop.is c.ended.ensures.seen c.ended.ensures.hidden
