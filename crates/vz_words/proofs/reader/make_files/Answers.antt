use Rattle.std.proofs.Common.{◌≡◌, IfNone, sym, subst, ◌∙◌, [], ◌∷◌, ap, length}
use Rattle.std.specs.Prelude.{codes}
use Rattle.vz_rules.specs.Command.{IsNoCommand, are_names}
use Rattle.vz_words.specs.Words.{texts}
use Rattle.vz_words.proofs.Pieces.{front_1, too_few_1, all_3, length_texts, behind}
use Rattle.vz_words.proofs.Shapes.{gen_found, no_gen}
use Rattle.vz_words.proofs.reader.make_files.Goals as goal

pub returns-in_default-clause-none : goal.returns-in_default-clause-none
returns-in_default-clause-none c = no_gen (texts c.args.words.now) (λ n first second third fits named is.
    too_few_1 c.args.words.now _ (first ∷ second ∷ third ∷ []) c.in_default.len_below is)

pub returns-in_err-rounds-clause-none : goal.returns-in_err-rounds-clause-none
returns-in_err-rounds-clause-none c =
    let front = front_1 c.args.words.now c.rounds-item.result c.in-len1-up.len_at_least c.rounds-item.is in
    subst (λ o. IfNone o (IsNoCommand (codes "gen" ∷ texts c.args.words.now))) (sym c.from_residual.ensures)
    (no_gen (texts c.args.words.now) (λ n first second third fits named is. c.in_err-rounds.ensures.none n fits (c.as_str.ensures.value ∙ cc)))

pub returns-then-names-ne3-clause-none : goal.returns-then-names-ne3-clause-none
returns-then-names-ne3-clause-none c =
    let front = front_1 c.args.words.now c.rounds-item.result c.in-len1-up.len_at_least c.rounds-item.is in
    no_gen (texts c.args.words.now) (λ n first second third fits named is.
    let names : texts (behind 1 c.args.words.now) ≡ first ∷ second ∷ third ∷ [] = cc in
    c.if-names-ne3.true (sym (length_texts (behind 1 c.args.words.now)) ∙ ap length names))

pub returns-then-not-are_names-clause-none : goal.returns-then-not-are_names-clause-none
returns-then-not-are_names-clause-none c =
    let front = front_1 c.args.words.now c.rounds-item.result c.in-len1-up.len_at_least c.rounds-item.is in
    let wrong = sym c.are_names.ensures ∙ c.if-not-are_names.true in
    no_gen (texts c.args.words.now) (λ n first second third fits named is.
    let names : texts (behind 1 c.args.words.now) ≡ first ∷ second ∷ third ∷ [] = cc in
    let right = ap are_names names ∙ named in
    cc)

pub returns-clause-found : goal.returns-clause-found
returns-clause-found c =
    let front = front_1 c.args.words.now c.rounds-item.result c.in-len1-up.len_at_least c.rounds-item.is in
    let three = all_3 (behind 1 c.args.words.now) c.index-names-0.result c.index-names-1.result c.index-names-2.result c.if-names-ne3.false c.index-names-0.is c.index-names-1.is c.index-names-2.is in
    let spelled = sym c.as_str.ensures.value ∙ c.in_ok-rounds.ensures.found in
    let first = c.as_str-2.ensures.value in
    let second = c.as_str-3.ensures.value in
    let third = c.as_str-4.ensures.value in
    let names : texts (behind 1 c.args.words.now) ≡ c.as_str-2.result.now ∷ c.as_str-3.result.now ∷ c.as_str-4.result.now ∷ [] = cc in
    gen_found (texts c.args.words.now) c.in_ok-rounds.rounds c.as_str-2.result.now c.as_str-3.result.now c.as_str-4.result.now c.in_ok-rounds.ensures.within
    (ap are_names (sym names) ∙ sym c.are_names.ensures ∙ c.if-not-are_names.false) (cc)
