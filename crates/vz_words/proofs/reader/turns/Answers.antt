use Rattle.std.proofs.Common.{IfNone, sym, subst, ◌∙◌, ◌∷◌}
use Rattle.std.specs.Prelude.{codes}
use Rattle.vz_rules.specs.Command.{IsNoCommand}
use Rattle.vz_words.specs.Words.{texts}
use Rattle.vz_words.proofs.Shapes.{turns_found, no_turns, no_turns_behind}
use Rattle.vz_words.proofs.reader.turns.Goals as goal

pub returns-in_err-width-clause-none : goal.returns-in_err-width-clause-none
returns-in_err-width-clause-none c =
    subst (λ o. IfNone o (IsNoCommand (codes "turns" ∷ texts c.args.words.now))) (sym c.from_residual.ensures)
    (no_turns (texts c.args.words.now) (λ w h t files timed named. c.in_err-width.ensures.none w h t files timed))

pub returns-then-not-are_names_with-clause-none : goal.returns-then-not-are_names_with-clause-none
returns-then-not-are_names_with-clause-none c =
    no_turns_behind (texts c.args.words.now) c.in_ok-width.field-0.width c.in_ok-width.field-0.height c.in_ok-width.field-0.ticks (texts c.in_ok-width.field-0.rest.now)
    c.in_ok-width.ensures.found (sym c.are_names_with.ensures ∙ c.if-not-are_names_with.true)

pub returns-clause-found : goal.returns-clause-found
returns-clause-found c =
    turns_found (texts c.args.words.now) c.in_ok-width.field-0.width c.in_ok-width.field-0.height c.in_ok-width.field-0.ticks (texts c.in_ok-width.field-0.rest.now)
    c.in_ok-width.ensures.found (sym c.are_names_with.ensures ∙ c.if-not-are_names_with.false)
