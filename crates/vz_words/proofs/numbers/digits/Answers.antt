use Rattle.std.proofs.Common.{◌≡◌, ℕ, ◌<◌, ◌^◌, ◌∙◌, sym, ap, subst, true, false, Option, IfSome, IfNone}
use Rattle.std.specs.Fmt.{decimal}
use Rattle.vz_words.specs.Words.{is_plain}
use Rattle.vz_words.proofs.Spelled.{found, missing, not_plain}
use Rattle.vz_words.proofs.numbers.digits.Goals as goal

pub returns-then-not-is_plain-clause-none : goal.returns-then-not-is_plain-clause-none
returns-then-not-is_plain-clause-none c =
    let plain : is_plain c.args.word.now ≡ false = ap is_plain (sym c.as_bytes.ensures.value) ∙ sym c.is_plain.ensures ∙ c.if-not-is_plain.true in
    not_plain c.args.word.now plain

pub returns-clause-found : goal.returns-clause-found
returns-clause-found c =
    let P : Option ℕ → Type 0 = λ o. IfSome o (λ n. c.args.word.now ≡ decimal n) in
    let plain : is_plain c.args.word.now ≡ true = ap is_plain (sym c.as_bytes.ensures.value) ∙ sym c.is_plain.ensures ∙ c.if-not-is_plain.false in
    subst P (sym c.ok.ensures.value) (found c.args.word.now c.parse.result plain c.parse.ensures.value.0)

pub returns-clause-none : goal.returns-clause-none
returns-clause-none c =
    let P : Option ℕ → Type 0 = λ o. IfNone o ((n : ℕ) → n < 2 ^ 32 → c.args.word.now ≡ decimal n → ⊥) in
    subst P (sym c.ok.ensures.value) (missing c.args.word.now c.parse.result c.parse.ensures.value.0)
