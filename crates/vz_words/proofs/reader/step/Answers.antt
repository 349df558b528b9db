use Rattle.std.proofs.Common.{IfNone, sym, subst, ◌∙◌, ◌∷◌}
use Rattle.std.specs.Prelude.{codes}
use Rattle.vz_rules.specs.Command.{IsNoCommand}
use Rattle.vz_words.specs.Words.{texts}
use Rattle.vz_words.proofs.Pieces.{front_3, too_few_3, behind}
use Rattle.vz_words.proofs.Shapes.{step_found, no_step, no_step_behind, unnamed}
use Rattle.vz_words.proofs.reader.step.Goals as goal

pub returns-in_err-width-clause-none : goal.returns-in_err-width-clause-none
returns-in_err-width-clause-none c =
    subst (λ o. IfNone o (IsNoCommand (codes "step" ∷ texts c.args.words.now))) (sym c.from_residual.ensures)
    (no_step (texts c.args.words.now) (λ w h s f l files is named. c.in_err-width.ensures.none w h (s ∷ f ∷ l ∷ files) is))

pub returns-in_default-clause-none : goal.returns-in_default-clause-none
returns-in_default-clause-none c =
    no_step_behind (texts c.args.words.now) c.in_ok-width.field-0.width c.in_ok-width.field-0.height (texts c.in_ok-width.field-0.rest.now) c.in_ok-width.ensures.found
    (λ s f l files is named. too_few_3 c.in_ok-width.field-0.rest.now s f l files c.in_default.len_below is)

pub returns-then-not-are_names_with-clause-none : goal.returns-then-not-are_names_with-clause-none
returns-then-not-are_names_with-clause-none c =
    let front = front_3 c.in_ok-width.field-0.rest.now c.schedule-item.result c.frames-item.result c.log-item.result c.in-len3-up.len_at_least c.schedule-item.is c.frames-item.is c.log-item.is in
    no_step_behind (texts c.args.words.now) c.in_ok-width.field-0.width c.in_ok-width.field-0.height (texts c.in_ok-width.field-0.rest.now) c.in_ok-width.ensures.found
    (λ s f l files is named. unnamed (texts c.in_ok-width.field-0.rest.now) files (texts (behind 3 c.in_ok-width.field-0.rest.now)) (cc) named (sym c.are_names_with.ensures ∙ c.if-not-are_names_with.true))

pub returns-clause-found : goal.returns-clause-found
returns-clause-found c =
    let front = front_3 c.in_ok-width.field-0.rest.now c.schedule-item.result c.frames-item.result c.log-item.result c.in-len3-up.len_at_least c.schedule-item.is c.frames-item.is c.log-item.is in
    step_found (texts c.args.words.now) c.in_ok-width.field-0.width c.in_ok-width.field-0.height c.as_str.result.now c.as_str-2.result.now c.as_str-3.result.now
    (texts (behind 3 c.in_ok-width.field-0.rest.now)) (texts c.in_ok-width.field-0.rest.now) c.in_ok-width.ensures.found
    (let s = c.as_str.ensures.value in let f = c.as_str-2.ensures.value in let l = c.as_str-3.ensures.value in cc) (sym c.are_names_with.ensures ∙ c.if-not-are_names_with.false)
