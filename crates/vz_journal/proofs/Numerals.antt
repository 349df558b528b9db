-- Numbers in decimal, read and written.
use Rattle.std.proofs.Common.{◌≡◌, ℕ, zero, suc, ◌+◌, ◌-◌, ◌/◌, ◌%◌, ◌^◌, ◌<◌, ◌≤◌, true, false, ◌==◌, leb, List, [], ◌∷◌, ◌++◌, slice_index, get_or, length, drop, Some, None, refl, ap, ◌∙◌, sym, append_assoc, arith, le-leb, leb-true, eqb-true, subst, ne_eqb, decimal}
use Rattle.std.proofs.lemmas.Bool.{and_parts, and_from, lt-leb}
use Rattle.std.proofs.lemmas.List.{drop_more, drop_all}
use Rattle.std.proofs.lemmas.Fmt.{decimal_digit, decimal_step, decimal_by_steps}
use Rattle.vz_journal.specs.Reading.{Read, is_digit, with_digit, digits_at, number_at}
use Rattle.vz_journal.proofs.Chosen.{chosen, some_is, none_is_not, pick, skip}

digit_bounds : (b : ℕ) → is_digit b ≡ true → (48 ≤ b) × (b ≤ 57)
digit_bounds b h =
    let both = and_parts (leb 48 b) (leb b 57) h in
    (leb-true 48 b both.0, leb-true b 57 both.1)

is_digit_of : (b : ℕ) → 48 ≤ b → b ≤ 57 → is_digit b ≡ true
is_digit_of b low high = and_from (leb 48 b) (leb b 57) (le-leb 48 b low) (le-leb b 57 high)

-- a number of two digits behind a text, digit by digit
pub two_digits : (n : ℕ) (old more : List ℕ) → 10 ≤ n → n < 100 → more ≡ old ++ decimal (n / 10) → more ++ decimal (n % 10) ≡ old ++ decimal n
two_digits n old more some low e =
    let last : decimal n ≡ decimal (n / 10) ++ decimal (n % 10) =
    decimal_step n some (omega arith) ∙ ap (λ t. decimal (n / 10) ++ t) (sym (decimal_digit (n % 10) (omega arith))) in
    ap (λ t. t ++ decimal (n % 10)) e ∙ append_assoc old (decimal (n / 10)) (decimal (n % 10)) ∙ ap (λ t. old ++ t) (sym last)

-- one digit more
longer : (n b : ℕ) → 0 < n → n ≤ 4294967295 → is_digit b ≡ true → decimal (with_digit n b) ≡ decimal n ++ b ∷ []
longer n b some low h =
    let d = digit_bounds b h in
    let front : with_digit n b / 10 ≡ n = omega arith in
    let last : 48 + with_digit n b % 10 ≡ b = omega arith in
    let step : decimal (with_digit n b) ≡ decimal (with_digit n b / 10) ++ ((48 + with_digit n b % 10) ∷ []) = decimal_step (with_digit n b) (omega arith) (omega arith) in
    step ∙ ap (λ (m : ℕ). decimal m ++ ((48 + with_digit n b % 10) ∷ [])) front ∙ ap (λ (m : ℕ). decimal n ++ (m ∷ [])) last

pub digits_took : (n : ℕ) (bytes : List ℕ) (x : ℕ × List ℕ) → 0 < n → n ≤ 4294967295 → digits_at n bytes ≡ Some x → (decimal n ++ bytes ≡ decimal x.0 ++ x.1) × (x.0 ≤ 4294967295)
unfolding digits_at
digits_took n [] x some low e =
    let same : (n, []) ≡ x = some_is _ _ e in
    subst (λ (y : ℕ × List ℕ). (decimal n ++ [] ≡ decimal y.0 ++ y.1) × (y.0 ≤ 4294967295)) same (refl, low)
digits_took n (b ∷ bs) x some low e =
    chosen (is_digit b) _ _ (Some x) e
    (λ digit e1. chosen (leb (with_digit n b) 4294967295) _ _ (Some x) e1
    (λ fits e2.
    let d = digit_bounds b digit in
    let rest = digits_took (with_digit n b) bs x (omega arith) (leb-true _ _ fits) e2 in
    let one : decimal (with_digit n b) ++ bs ≡ decimal n ++ (b ∷ bs) = ap (λ t. t ++ bs) (longer n b some low digit) ∙ append_assoc (decimal n) (b ∷ []) bs in
    (sym one ∙ rest.0, rest.1))
    (λ _ e2. none_is_not x e2))
    (λ _ e1.
    let same : (n, b ∷ bs) ≡ x = some_is _ _ e1 in
    subst (λ (y : ℕ × List ℕ). (decimal n ++ (b ∷ bs) ≡ decimal y.0 ++ y.1) × (y.0 ≤ 4294967295)) same (refl, low))

-- what is read is written so
pub number_took : (bytes : List ℕ) (x : ℕ × List ℕ) → number_at bytes ≡ Some x → (bytes ≡ decimal x.0 ++ x.1) × (x.0 ≤ 4294967295)
unfolding number_at
number_took [] x e = none_is_not x e
number_took (b ∷ bs) x e =
    chosen (b == 48) _ _ (Some x) e
    (λ zero_first e1.
    let same : (0, bs) ≡ x = some_is _ _ e1 in
    let is : b ≡ 48 = eqb-true b 48 zero_first in
    let text : b ∷ bs ≡ decimal 0 ++ bs = ap (λ (m : ℕ). m ∷ bs) is ∙ ap (λ t. t ++ bs) (sym (decimal_digit 0 (omega arith))) in
    subst (λ (y : ℕ × List ℕ). (b ∷ bs ≡ decimal y.0 ++ y.1) × (y.0 ≤ 4294967295)) same (text, omega arith))
    (λ other e1. chosen (is_digit b) _ _ (Some x) e1
    (λ digit e2.
    let d = digit_bounds b digit in
    let apart : b ≡ 48 → ⊥ = λ is. absurd (not_both b other is) in
    let rest = digits_took (b - 48) bs x (omega arith) (omega arith) e2 in
    let first : 48 + (b - 48) ≡ b = omega arith in
    let text : decimal (b - 48) ++ bs ≡ b ∷ bs = ap (λ t. t ++ bs) (decimal_digit (b - 48) (omega arith)) ∙ ap (λ (m : ℕ). m ∷ bs) first in
    (sym text ∙ rest.0, rest.1))
    (λ _ e2. none_is_not x e2))
  where
    not_both : (b : ℕ) → (b == 48) ≡ false → b ≡ 48 → ⊥
    not_both b h is = let yes_it_is : (48 == 48) ≡ false = rw is at h in cc

-- a first digit that is not 0
first_digit : (n : ℕ) (s : List ℕ) → 0 < n → n < 10 → number_at ((48 + n) ∷ s) ≡ digits_at n s
unfolding number_at
first_digit n s some small =
    let digit : is_digit (48 + n) ≡ true = is_digit_of (48 + n) (omega arith) (omega arith) in
    let other : ((48 + n) == 48) ≡ false = ne_eqb (48 + n) 48 (λ is. omega arith) in
    let value : (48 + n) - 48 ≡ n = omega arith in
    skip ((48 + n) == 48) (Some (0, s)) _ other ∙ pick (is_digit (48 + n)) (digits_at ((48 + n) - 48) s) None digit ∙ ap (λ (m : ℕ). digits_at m s) value

-- a digit more
next_digit : (n b : ℕ) (s : List ℕ) → is_digit b ≡ true → with_digit n b ≤ 4294967295 → digits_at n (b ∷ s) ≡ digits_at (with_digit n b) s
unfolding digits_at
next_digit n b s digit low =
    pick (is_digit b) _ (Some (n, b ∷ s)) digit ∙ pick (leb (with_digit n b) 4294967295) (digits_at (with_digit n b) s) None (le-leb (with_digit n b) 4294967295 low)

-- the last digit behind the others
last_digit : (n : ℕ) (s : List ℕ) → n ≤ 4294967295 → digits_at (n / 10) ((48 + n % 10) ∷ s) ≡ digits_at n s
last_digit n s low =
    let digit : is_digit (48 + n % 10) ≡ true = is_digit_of (48 + n % 10) (omega arith) (omega arith) in
    let value : with_digit (n / 10) (48 + n % 10) ≡ n = omega arith in
    next_digit (n / 10) (48 + n % 10) s digit (omega arith) ∙ ap (λ (m : ℕ). digits_at m s) value

-- the digits of a number, read up to what follows them
all_digits : (n : ℕ) → n < 2 ^ 64 → 0 < n → n ≤ 4294967295 → (s : List ℕ) → number_at (decimal n ++ s) ≡ digits_at n s
all_digits = decimal_by_steps (λ n ds. 0 < n → n ≤ 4294967295 → (s : List ℕ) → number_at (ds ++ s) ≡ digits_at n s)
    (λ n small some low s. first_digit n s some small)
    (λ n ds large before some low s.
    ap number_at (append_assoc ds ((48 + n % 10) ∷ []) s) ∙ before (omega arith) (omega arith) ((48 + n % 10) ∷ s) ∙ last_digit n s low)

ended_digits : (n : ℕ) (s : List ℕ) → is_digit (slice_index s 0) ≡ false → digits_at n s ≡ Some (n, s)
unfolding digits_at
ended_digits n [] h = refl
ended_digits n (b ∷ bs) h = skip (is_digit b) _ (Some (n, b ∷ bs)) h

-- what is written is read again, where no digit follows
pub number_again : (n : ℕ) (s : List ℕ) → n ≤ 4294967295 → is_digit (slice_index s 0) ≡ false → number_at (decimal n ++ s) ≡ Some (n, s)
unfolding number_at
number_again zero s low h = ap (λ t. number_at (t ++ s)) (decimal_digit 0 (omega arith))
number_again (suc n) s low h = all_digits (suc n) (omega arith) (omega arith) low s ∙ ended_digits (suc n) s h

-- ---- the loop over the digits

pub no_digit : (n i : ℕ) (bytes : List ℕ) (total : Read ℕ) → i < length bytes → is_digit (get_or bytes i 0) ≡ false → digits_at n (drop i bytes) ≡ total → total ≡ Some (n, drop i bytes)
unfolding digits_at
no_digit n i bytes total lt other so_far =
    let here = drop_more bytes i 0 lt in
    sym so_far ∙ ap (digits_at n) here ∙ skip (is_digit (get_or bytes i 0)) _ _ other ∙ ap (λ (t : List ℕ). Some (n, t)) (sym here)

pub too_great : (n i : ℕ) (bytes : List ℕ) (total : Read ℕ) → i < length bytes → is_digit (get_or bytes i 0) ≡ true → 4294967295 < with_digit n (get_or bytes i 0) → digits_at n (drop i bytes) ≡ total → total ≡ None
unfolding digits_at
too_great n i bytes total lt digit great so_far =
    let b = get_or bytes i 0 in
    let here = drop_more bytes i 0 lt in
    sym so_far ∙ ap (digits_at n) here ∙ pick (is_digit (get_or bytes i 0)) _ _ digit ∙ skip (leb (with_digit n (get_or bytes i 0)) 4294967295) _ _ (lt-leb _ _ great)

pub one_digit : (n i : ℕ) (bytes : List ℕ) (total : Read ℕ) → i < length bytes → is_digit (get_or bytes i 0) ≡ true → with_digit n (get_or bytes i 0) ≤ 4294967295 → digits_at n (drop i bytes) ≡ total → digits_at (with_digit n (get_or bytes i 0)) (drop (i + 1) bytes) ≡ total
unfolding digits_at
one_digit n i bytes total lt digit small so_far =
    let here = drop_more bytes i 0 lt in
    sym (ap (digits_at n) here ∙ next_digit n (get_or bytes i 0) (drop (i + 1) bytes) digit small) ∙ so_far

pub no_more_digits : (n i : ℕ) (bytes : List ℕ) (total : Read ℕ) → length bytes ≤ i → digits_at n (drop i bytes) ≡ total → total ≡ Some (n, [])
unfolding digits_at
no_more_digits n i bytes total le so_far = sym so_far ∙ ap (digits_at n) (drop_all i bytes le)
