-- Lists that grow by what is next to them, until a step adds nothing.
use Rattle.std.proofs.Common.{◌≡◌, ℕ, zero, suc, ◌+◌, ◌-◌, ◌<◌, ◌≤◌, Bool, true, false, cond, List, [], ◌∷◌, ◌++◌, drop, length, get_or, refl, sym, ap, ◌∙◌, arith, length-append}
use Rattle.std.proofs.lemmas.List.{drop_more}
use Rattle.std.specs.List.{list_any, flat_map}
use Rattle.vz_rules.specs.Closure.{adding, closure}

grows_by : {A : Type 0} (same : A → A → Bool) (t : Bool) (y : A) (xs ys : List A) → ((zs : List A) → length zs ≤ length (adding same zs ys)) → length xs ≤ length (adding same (cond t xs (xs ++ y ∷ [])) ys)
grows_by same true y xs ys h = h xs
grows_by same false y xs ys h = let more = h (xs ++ y ∷ []) in omega (arith, length-append xs (y ∷ []))

-- nothing is lost
adding_grows : {A : Type 0} (same : A → A → Bool) (ys xs : List A) → length xs ≤ length (adding same xs ys)
adding_grows same [] xs = omega arith
adding_grows same (y ∷ ys) xs = grows_by same (list_any (same y) xs) y xs ys (adding_grows same ys)

stays_by : {A : Type 0} (same : A → A → Bool) (t : Bool) (y : A) (xs ys : List A) → ((zs : List A) → length (adding same zs ys) ≡ length zs → adding same zs ys ≡ zs)
    → length (adding same (cond t xs (xs ++ y ∷ [])) ys) ≡ length xs → adding same (cond t xs (xs ++ y ∷ [])) ys ≡ xs
stays_by same true y xs ys h e = h xs e
stays_by same false y xs ys h e = absurd (omega (arith, adding_grows same ys (xs ++ y ∷ []), length-append xs (y ∷ [])))

-- where as many are there as before, nothing was added
pub adding_stays : {A : Type 0} (same : A → A → Bool) (ys xs : List A) → length (adding same xs ys) ≡ length xs → adding same xs ys ≡ xs
adding_stays same [] xs e = refl
adding_stays same (y ∷ ys) xs e = stays_by same (list_any (same y) xs) y xs ys (adding_stays same ys) e

-- no further step adds anything
pub closure_stays : {A : Type 0} (same : A → A → Bool) (next : A → List A) (n : ℕ) (xs : List A) → adding same xs (flat_map next xs) ≡ xs → closure same next n xs ≡ xs
unfolding closure
closure_stays same next zero xs e = refl
closure_stays same next (suc n) xs e = ap (closure same next n) e ∙ closure_stays same next n xs e

-- one step first, and then one fewer
pub closure_next : {A : Type 0} (same : A → A → Bool) (next : A → List A) (n : ℕ) (xs : List A) → 0 < n → closure same next n xs ≡ closure same next (n - 1) (adding same xs (flat_map next xs))
unfolding closure
closure_next same next zero xs h = absurd (omega arith)
closure_next same next (suc n) xs h = let e : n ≡ suc n - 1 = omega arith in ap (λ k. closure same next k (adding same xs (flat_map next xs))) e

-- no step is left
pub closure_zero : {A : Type 0} (same : A → A → Bool) (next : A → List A) (n : ℕ) (xs : List A) → n ≤ 0 → closure same next n xs ≡ xs
unfolding closure
closure_zero same next zero xs h = refl
closure_zero same next (suc n) xs h = absurd (omega arith)

-- where a step adds nothing, it is as all further ones
pub closure_end : {A : Type 0} (same : A → A → Bool) (next : A → List A) (n : ℕ) (xs ys new : List A) → ys ≡ flat_map next xs → new ≡ adding same xs ys → length new ≡ length xs → closure same next n xs ≡ new
closure_end same next n xs ys new e is h =
    let same_length : length (adding same xs ys) ≡ length xs = ap length (sym is) ∙ h in
    let stays : adding same xs ys ≡ xs = adding_stays same ys xs same_length in
    closure_stays same next n xs (ap (adding same xs) (sym e) ∙ stays) ∙ (sym stays ∙ sym is)

-- one element more is added where it is not there
pub add_more : {A : Type 0} (same : A → A → Bool) (all ys old new : List A) (k : ℕ) (d : A) → k < length ys → all ≡ adding same old (drop k ys)
    → new ≡ cond (list_any (same (get_or ys k d)) old) old (old ++ get_or ys k d ∷ []) → all ≡ adding same new (drop (k + 1) ys)
add_more same all ys old new k d h was is =
    was ∙ (ap (adding same old) (drop_more ys k d h) ∙ ap (λ l. adding same l (drop (k + 1) ys)) (sym is))
