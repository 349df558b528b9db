-- Laws on numbered calls.
use Rattle.std.proofs.Common.{◌≡◌, ℕ, ◌≤◌, ◌==◌, nat_lt, true, false, List, [], ◌∷◌, IsTrue, refl, arith}
use Rattle.std.specs.List.{list_all, list_any}
use Rattle.std.proofs.lemmas.Bool.{and_parts, and_from, both_ways, ltb-true, lt-ltb, ne_eqb}
use Rattle.vz_outside.proofs.Rises.{one_more_least}
use Rattle.vz_outside.specs.{Faults.one_more, Numbered.Numbered, Numbered.after_one_call, Numbered.is_failing, Numbered.is_faultless}
use Rattle.std.proofs.lemmas.Bool.Decides.{nat_tests}

-- of numbers below another none is equal to it
none_equal : (numbers : List ℕ) (next : ℕ) → list_all (λ n. nat_lt n next) numbers ≡ true → list_any (λ n. n == next) numbers ≡ false
none_equal [] next below = refl
none_equal (n ∷ numbers) next below = grind (arith, nat_tests, and_parts (nat_lt n next), ne_eqb n next, none_equal numbers next)

-- numbers below another are below a greater one
still_below :
    (numbers : List ℕ) (next later : ℕ) → next ≤ later → list_all (λ n. nat_lt n next) numbers ≡ true →
    list_all (λ n. nat_lt n later) numbers ≡ true
still_below [] next later le below = refl
still_below (n ∷ numbers) next later le below =
    let parts = and_parts (nat_lt n next) (list_all (λ m. nat_lt m next) numbers) below in
    let less = ltb-true n next parts.0 in
    and_from (nat_lt n later) (list_all (λ m. nat_lt m later) numbers) (lt-ltb n later (omega arith))
    (still_below numbers next later le parts.1)

-- the next of faultless calls is none of those that fail
pub faultless_passes : (calls : Numbered) → IsTrue (is_faultless calls) → is_failing calls ≡ false
faultless_passes calls faultless = none_equal calls.failing calls.next (and_parts _ _ faultless).0

-- a faultless device does not fail by its number
pub faultless_not_failing : {P : Type 0} (calls : Numbered) → IsTrue (is_faultless calls) → is_failing calls ≡ true → P
faultless_not_failing calls faultless fails = absurd (both_ways (is_failing calls) (faultless_passes calls faultless) fails)

-- faultless calls are faultless after one more
pub faultless_counted : (calls : Numbered) → IsTrue (is_faultless calls) → IsTrue (is_faultless (after_one_call calls))
faultless_counted calls faultless =
    and_from _ _
    (still_below calls.failing calls.next (one_more calls.next) (one_more_least calls.next) (and_parts _ _ faultless).0)
    (and_parts _ _ faultless).1
