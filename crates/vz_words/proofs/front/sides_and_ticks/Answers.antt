use Rattle.std.proofs.Common.{sym, ◌∙◌}
use Rattle.vz_words.specs.Words.{texts}
use Rattle.vz_words.proofs.Pieces.{front_1, behind}
use Rattle.vz_words.proofs.Shapes.{too_much}
use Rattle.vz_words.proofs.front.sides_and_ticks.Goals as goal

pub returns-then-not-frames_fit-clause-none : goal.returns-then-not-frames_fit-clause-none
returns-then-not-frames_fit-clause-none c =
    let front = front_1 c.in_ok-width.field-0.rest.now c.ticks-item.result c.in-len1-up.len_at_least c.ticks-item.is in
    let spelled = sym c.as_str.ensures.value ∙ c.in_ok-ticks.ensures.found in
    too_much (texts c.args.words.now) c.in_ok-width.field-0.width c.in_ok-width.field-0.height c.in_ok-ticks.ticks (texts c.in_ok-width.field-0.rest.now) (texts (behind 1 c.in_ok-width.field-0.rest.now))
    c.in_ok-width.ensures.found (cc) c.in_ok-ticks.ensures.within (sym c.frames_fit.ensures ∙ c.if-not-frames_fit.true)
