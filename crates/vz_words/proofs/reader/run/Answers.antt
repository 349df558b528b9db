use Rattle.std.proofs.Common.{IfNone, sym, subst, ◌∙◌, ◌∷◌}
use Rattle.std.specs.Prelude.{codes}
use Rattle.vz_rules.specs.Command.{IsNoCommand}
use Rattle.vz_words.specs.Words.{texts}
use Rattle.vz_words.proofs.Pieces.{front_2, too_few_2, behind}
use Rattle.vz_words.proofs.Shapes.{unnamed}
use Rattle.vz_words.proofs.Running.{run_found, no_run_buffers, no_run_timed, no_run_behind}
use Rattle.vz_words.proofs.reader.run.Goals as goal

pub returns-in_err-buffers-clause-none : goal.returns-in_err-buffers-clause-none
returns-in_err-buffers-clause-none c =
    subst (λ o. IfNone o (IsNoCommand (codes "run" ∷ texts c.args.words.now))) (sym c.from_residual.ensures)
    (no_run_buffers (texts c.args.words.now) c.flag-paced.result.0 (texts c.flag-paced.result.1.now) c.flag-paced.ensures c.in_err-buffers.ensures.none)

pub returns-in_err-width-clause-none : goal.returns-in_err-width-clause-none
returns-in_err-width-clause-none c =
    subst (λ o. IfNone o (IsNoCommand (codes "run" ∷ texts c.args.words.now))) (sym c.from_residual-in_err-width.ensures)
    (no_run_timed (texts c.args.words.now) c.flag-paced.result.0 c.in_ok-buffers.buffers c.flag-pipe.result.0 (texts c.flag-pipe.result.1.now)
    (texts c.flag-paced.result.1.now, texts c.in_ok-buffers.rest.now, c.flag-paced.ensures, c.in_ok-buffers.ensures.found, c.flag-pipe.ensures) c.in_err-width.ensures.none)

pub returns-in_default-clause-none : goal.returns-in_default-clause-none
returns-in_default-clause-none c =
    no_run_behind (texts c.args.words.now) c.flag-paced.result.0 c.in_ok-buffers.buffers c.flag-pipe.result.0 (texts c.flag-pipe.result.1.now)
    c.in_ok-width.field-0.width c.in_ok-width.field-0.height c.in_ok-width.field-0.ticks (texts c.in_ok-width.field-0.rest.now)
    (texts c.flag-paced.result.1.now, texts c.in_ok-buffers.rest.now, c.flag-paced.ensures, c.in_ok-buffers.ensures.found, c.flag-pipe.ensures) c.in_ok-width.ensures.found
    (λ f l files is named. too_few_2 c.in_ok-width.field-0.rest.now f l files c.in_default.len_below is)

pub returns-then-not-are_names_with-clause-none : goal.returns-then-not-are_names_with-clause-none
returns-then-not-are_names_with-clause-none c =
    let front = front_2 c.in_ok-width.field-0.rest.now c.frames-item.result c.log-item.result c.in-len2-up.len_at_least c.frames-item.is c.log-item.is in
    no_run_behind (texts c.args.words.now) c.flag-paced.result.0 c.in_ok-buffers.buffers c.flag-pipe.result.0 (texts c.flag-pipe.result.1.now)
    c.in_ok-width.field-0.width c.in_ok-width.field-0.height c.in_ok-width.field-0.ticks (texts c.in_ok-width.field-0.rest.now)
    (texts c.flag-paced.result.1.now, texts c.in_ok-buffers.rest.now, c.flag-paced.ensures, c.in_ok-buffers.ensures.found, c.flag-pipe.ensures) c.in_ok-width.ensures.found
    (λ f l files is named. unnamed (texts c.in_ok-width.field-0.rest.now) files (texts (behind 2 c.in_ok-width.field-0.rest.now)) (cc) named (sym c.are_names_with.ensures ∙ c.if-not-are_names_with.true))

pub returns-clause-found : goal.returns-clause-found
returns-clause-found c =
    let front = front_2 c.in_ok-width.field-0.rest.now c.frames-item.result c.log-item.result c.in-len2-up.len_at_least c.frames-item.is c.log-item.is in
    let frames = c.as_str.ensures.value in
    let log = c.as_str-2.ensures.value in
    run_found (texts c.args.words.now) c.flag-paced.result.0 c.in_ok-buffers.buffers c.flag-pipe.result.0 (texts c.flag-pipe.result.1.now)
    c.in_ok-width.field-0.width c.in_ok-width.field-0.height c.in_ok-width.field-0.ticks (texts c.in_ok-width.field-0.rest.now) c.as_str.result.now c.as_str-2.result.now
    (texts (behind 2 c.in_ok-width.field-0.rest.now))
    (texts c.flag-paced.result.1.now, texts c.in_ok-buffers.rest.now, c.flag-paced.ensures, c.in_ok-buffers.ensures.found, c.flag-pipe.ensures) c.in_ok-width.ensures.found
    (cc) (sym c.are_names_with.ensures ∙ c.if-not-are_names_with.false)
