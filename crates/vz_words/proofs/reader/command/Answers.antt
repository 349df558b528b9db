use Rattle.std.proofs.Common.{◌≡◌, ◌∷◌, sym, subst}
use Rattle.vz_rules.specs.Command.{IsNoCommand}
use Rattle.vz_words.specs.Words.{texts}
use Rattle.vz_words.proofs.Firsts.{no_words, unknown_word}
use Rattle.vz_words.proofs.Pieces.{front_1, none_of, behind}
use Rattle.vz_words.proofs.reader.command.Goals as goal

pub returns-in_default-clause-none : goal.returns-in_default-clause-none
returns-in_default-clause-none c = subst IsNoCommand (sym (none_of c.args.words.now c.in_default.len_below)) no_words

pub returns-in_default-as_str-clause-none : goal.returns-in_default-as_str-clause-none
returns-in_default-as_str-clause-none c =
    let front = front_1 c.args.words.now c.name-item.result c.in-len1-up.len_at_least c.name-item.is in
    let first = c.as_str.ensures.value in
    let words : texts c.args.words.now ≡ c.as_str.result.now ∷ texts (behind 1 c.args.words.now) = cc in
    let none : IsNoCommand (c.as_str.result.now ∷ texts (behind 1 c.args.words.now)) =
    unknown_word c.as_str.result.now (texts (behind 1 c.args.words.now)) c.in_default-as_str.not-run c.in_default-as_str.not-step c.in_default-as_str.not-check
    c.in_default-as_str.not-gen c.in_default-as_str.not-demo c.in_default-as_str.not-hit c.in_default-as_str.not-turns in
    subst IsNoCommand (sym words) none
