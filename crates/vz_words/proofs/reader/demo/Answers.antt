use Rattle.std.proofs.Common.{IfNone, sym, subst, ◌∙◌, ◌∷◌, ap, length}
use Rattle.std.specs.Prelude.{codes}
use Rattle.vz_rules.specs.Command.{IsNoCommand}
use Rattle.vz_words.specs.Words.{texts}
use Rattle.vz_words.proofs.Pieces.{all_1, length_texts}
use Rattle.vz_words.proofs.Shapes.{demo_found, no_demo}
use Rattle.vz_words.proofs.reader.demo.Goals as goal

pub returns-then-words-ne1-clause-none : goal.returns-then-words-ne1-clause-none
returns-then-words-ne1-clause-none c = no_demo (texts c.args.words.now) (λ n fits is.
    c.if-words-ne1.true (sym (length_texts c.args.words.now) ∙ ap length is))

pub returns-in_err-rounds-clause-none : goal.returns-in_err-rounds-clause-none
returns-in_err-rounds-clause-none c =
    let all = all_1 c.args.words.now c.index-words-0.result c.if-words-ne1.false c.index-words-0.is in
    subst (λ o. IfNone o (IsNoCommand (codes "demo" ∷ texts c.args.words.now))) (sym c.from_residual.ensures)
    (no_demo (texts c.args.words.now) (λ n fits is. c.in_err-rounds.ensures.none n fits (c.as_str.ensures.value ∙ cc)))

pub returns-clause-found : goal.returns-clause-found
returns-clause-found c =
    let all = all_1 c.args.words.now c.index-words-0.result c.if-words-ne1.false c.index-words-0.is in
    let spelled = sym c.as_str.ensures.value ∙ c.in_ok-rounds.ensures.found in
    demo_found (texts c.args.words.now) c.in_ok-rounds.rounds c.in_ok-rounds.ensures.within cc
