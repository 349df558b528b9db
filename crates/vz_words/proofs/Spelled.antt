-- Words that spell numbers.
use Rattle.std.proofs.Common.{◌≡◌, ◌≢◌, ℕ, ◌<◌, ◌≤◌, ◌^◌, List, [], ◌∷◌, length, get_or, true, false, refl, sym, ap, arith, ◌∙◌, zero, suc, IfSome, IfNone, IsTrue, Result, Ok, Err}
use Rattle.std.specs.Fmt.{decimal}
use Rattle.std.specs.Result.{result_ok}
use Rattle.std.specs.Str.Parse.{AllDigits, digits_value, ParsesUnsigned}
use Rattle.std.proofs.lemmas.Str.Parse.{IsNumeralModel, numerals_by_value, tells_digits, parse_plain}
use Rattle.std.proofs.lemmas.Fmt.{decimal-digits_value, parse-decimal, first_decimal, decimal_digit, decimal_injective}
use Rattle.vz_frame.specs.Fits.{within}
use Rattle.vz_rules.specs.Command.{begins_with_dash}
use Rattle.vz_words.specs.Words.{is_plain}

own : IsNumeralModel (AllDigits 10) (digits_value 10)
own = numerals_by_value (AllDigits 10) tells_digits

no_plus : (bs : List ℕ) → is_plain bs ≡ true → get_or bs 0 0 ≢ 43
no_plus [] p e = grind arith
no_plus (c ∷ []) p e = grind arith
no_plus (c ∷ d ∷ cs) p e = grind arith

no_zero : (bs : List ℕ) → is_plain bs ≡ true → 0 < length bs → get_or bs 0 0 ≡ 48 → length bs ≡ 1
no_zero [] p some e = grind arith
no_zero (c ∷ []) p some e = refl
no_zero (c ∷ d ∷ cs) p some e = grind arith

-- what is parsed is spelled so
pub found : {E : Type 0} (bs : List ℕ) (r : Result ℕ E) → is_plain bs ≡ true → ParsesUnsigned 32 10 bs r → IfSome (result_ok r) (λ n. bs ≡ decimal n)
found {E} bs (Ok n) p h =
    let k : ((AllDigits 10 bs) × (0 < length bs) × (digits_value 10 bs < 2 ^ 32)) × (n ≡ digits_value 10 bs) = parse_plain own {E = E} 32 bs (Ok n) h (no_plus bs p) in
    let small : digits_value 10 bs < 2 ^ 32 = k.0.2 in
    let written : decimal (digits_value 10 bs) ≡ bs = decimal-digits_value own bs k.0.0 k.0.1 (no_zero bs p k.0.1) (omega arith) in
    let same : n ≡ digits_value 10 bs = k.1 in
    sym (ap decimal same ∙ written)
found bs (Err e) p h = tt

-- what is not parsed spells no number
pub missing : {E : Type 0} (bs : List ℕ) (r : Result ℕ E) → ParsesUnsigned 32 10 bs r → IfNone (result_ok r) ((n : ℕ) → n < 2 ^ 32 → bs ≡ decimal n → ⊥)
missing bs (Ok n) h = tt
missing {E} bs (Err e) h = λ n small is.
    let read : ◌≡◌ {A = Result ℕ E} (Err e) (Ok n) = parse-decimal 32 n bs (Err e) small (omega arith) is h in cc

no_dash : (bs : List ℕ) → 48 < get_or bs 0 0 → begins_with_dash bs ≡ false
no_dash [] low = grind arith
no_dash (c ∷ cs) low = grind arith

plain_from : (bs : List ℕ) → 48 < get_or bs 0 0 → is_plain bs ≡ true
plain_from [] low = grind arith
plain_from (c ∷ []) low = grind arith
plain_from (c ∷ d ∷ cs) low = grind arith

-- a number's digits begin neither with a plus nor with a zero before others
plain_digits : (n : ℕ) → n < 2 ^ 32 → is_plain (decimal n) ≡ true
plain_digits zero small = rw (decimal_digit 0 (omega arith)) refl
plain_digits (suc n) small = plain_from (decimal (suc n)) (first_decimal (suc n) (omega arith) (omega arith))

-- what is not plain spells no number
pub not_plain : (bs : List ℕ) → is_plain bs ≡ false → (n : ℕ) → n < 2 ^ 32 → bs ≡ decimal n → ⊥
not_plain bs p n small is =
    let plain : is_plain bs ≡ true = ap is_plain is ∙ plain_digits n small in cc

-- a word spells one number
pub same_number : (bs : List ℕ) (m n : ℕ) → m < 2 ^ 32 → n < 2 ^ 32 → bs ≡ decimal m → bs ≡ decimal n → m ≡ n
same_number bs m n low small is again = decimal_injective m n (omega arith) (omega arith) (sym is ∙ again)

pub within_is : (least most n : ℕ) → IsTrue (within least most n) → (least ≤ n) × (n ≤ most)
within_is least most n h = (grind arith, grind arith)

-- a word that spells a number out of range spells none in range
pub out_of_range : (bs : List ℕ) (m n least most : ℕ) → m < 2 ^ 32 → most < 2 ^ 32 → bs ≡ decimal m → (least ≤ m → m ≤ most → ⊥)
    → IsTrue (within least most n) → bs ≡ decimal n → ⊥
out_of_range bs m n least most low top is out fits again =
    let k = within_is least most n fits in
    let same : m ≡ n = same_number bs m n low (omega arith) is again in
    out (omega arith) (omega arith)

-- numbers with one spelling
pub same_within : (least most m n : ℕ) → most < 2 ^ 32 → IsTrue (within least most m) → IsTrue (within least most n) → decimal m ≡ decimal n → m ≡ n
same_within least most m n top low high is =
    let j = within_is least most m low in
    let k = within_is least most n high in
    decimal_injective m n (omega arith) (omega arith) is

-- a number's digits begin with no dash
pub digits_begin : (n : ℕ) → n < 2 ^ 32 → begins_with_dash (decimal n) ≡ false
digits_begin zero small = rw (decimal_digit 0 (omega arith)) refl
digits_begin (suc n) small = no_dash (decimal (suc n)) (first_decimal (suc n) (omega arith) (omega arith))
