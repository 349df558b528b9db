-- The laws of values in a row, and of a count before them.
use Rattle.std.proofs.Common.{◌≡◌, ℕ, zero, suc, ◌+◌, Bool, true, ◌&&◌, eqb}
use Rattle.std.proofs.Common.{List, [], ◌∷◌, ◌++◌, length, refl, ap, ◌∙◌, arith}
use Rattle.std.specs.List.{flat_map, list_all}
use Rattle.std.specs.Int.{Width, to_le_bytes}
use Rattle.std.proofs.lemmas.Bool.{and_parts, and_from, eq-eqb, eqb-true}
use Rattle.vz_codec.specs.Reading.{Reading, limited_at, row_at, many_at, counted_at}
use Rattle.vz_codec.specs.Fields.{Kind, field}
use Rattle.vz_codec.proofs.Lawful.{IsField, refit, fewer, thens, makes, alone}

-- each fits with what those before it left
abbrev pub all_in : {S A : Type 0} → (S → A → Bool) → (S → A → S) → S → List A → Bool
all_in fit after s [] = true
all_in fit after s (x ∷ xs) = fit s x && all_in fit after (after s x) xs

no_longer : {A : Type 0} (xs : List A) → length xs ≡ 0 → [] ≡ xs
no_longer [] e = refl
no_longer (x ∷ xs) e = absurd (omega arith)

module _ {S A : Type 0} {read : S → Reading A} {spell : A → List ℕ} {fit : S → A → Bool} {l : ℕ}
    (t : (s : S) → IsField (field (read s) spell (fit s)) l) (after : S → A → S) where
  -- so many that fit
  abbrev row_fits : ℕ → S → List A → Bool
  row_fits n s xs = eqb (length xs) n && all_in fit after s xs

  row_there : (n : ℕ) (s : S) (x : A) (xs : List A) → (fit s x && row_fits n (after s x) xs) ≡ true
      → row_fits (suc n) s (x ∷ xs) ≡ true
  row_there n s x xs h =
      let each = and_parts (fit s x) (row_fits n (after s x) xs) h in
      let rest = and_parts (eqb (length xs) n) (all_in fit after (after s x) xs) each.1 in
      let long = eq-eqb (suc (length xs)) (suc n) (ap suc (eqb-true (length xs) n rest.0)) in
      and_from _ _ long (and_from _ _ each.0 rest.1)

  row_back : (n : ℕ) (s : S) (xs : List A) → row_fits (suc n) s xs ≡ true
      → (p : A × List A) × ((p.0 ∷ p.1) ≡ xs) × (flat_map spell xs ≡ spell p.0 ++ flat_map spell p.1)
      × ((fit s p.0 && row_fits n (after s p.0) p.1) ≡ true)
  row_back n s [] h =
      let none : 0 ≡ suc n = eqb-true 0 (suc n) (and_parts (eqb 0 (suc n)) true h).0 in
      absurd (omega arith)
  row_back n s (x ∷ xs) h =
      let each = and_parts (eqb (length (x ∷ xs)) (suc n)) (all_in fit after s (x ∷ xs)) h in
      let len : suc (length xs) ≡ suc n = eqb-true (length (x ∷ xs)) (suc n) each.0 in
      let rest = and_parts (fit s x) (all_in fit after (after s x) xs) each.1 in
      ((x, xs), refl, refl, and_from _ _ rest.0 (and_from _ _ (eq-eqb (length xs) n (omega arith)) rest.1))

  pub rows : (n : ℕ) (s : S) → IsField (field (row_at read after n s) (flat_map spell) (row_fits n s)) 0
  unfolding row_at
  rows zero s =
      alone [] (flat_map spell) (row_fits 0 s) refl refl
      (λ xs h. no_longer xs (eqb-true (length xs) 0 (and_parts (eqb (length xs) 0) (all_in fit after s xs) h).0))
  rows (suc n) s =
      let pair = thens (t s) (λ a. rows n (after s a)) in
      makes (fewer pair) (λ p. p.0 ∷ p.1) (flat_map spell) (row_fits (suc n) s)
      (λ p _ h. (refl, row_there n s p.0 p.1 h)) (row_back n s)

-- so many values
all_same : {A : Type 0} (f : A → Bool) (xs : List A) → all_in {S = Unit {0}} (λ _. f) (λ s _. s) tt xs ≡ list_all f xs
all_same f [] = refl
all_same f (x ∷ xs) = ap (λ b. f x && b) (all_same f xs)

abbrev many_of : {A : Type 0} → Kind A → ℕ → Kind (List A)
many_of k n = field (many_at k.reading n) (flat_map k.spelling) (λ xs. eqb (length xs) n && list_all k.fitting xs)

pub manys : {A : Type 0} {k : Kind A} {l : ℕ} → IsField k l → (n : ℕ) → IsField (many_of k n) 0
manys {A} {k} t n =
    refit (rows (λ (_ : Unit {0}). t) (λ s _. s) n tt) (many_of k n).fitting
    (λ xs. ap (λ b. eqb (length xs) n && b) (all_same k.fitting xs))

-- a count, and so many values
abbrev pub counted_of : {A : Type 0} → Width → ℕ → (ℕ → Bool) → (ℕ → Reading (List A)) → (A → List ℕ) → (List A → Bool)
    → Kind (List A)
counted_of w limit few reads spell good =
    field (counted_at w limit reads) (λ xs. to_le_bytes w (length xs) ++ flat_map spell xs)
    (λ xs. few (length xs) && good xs)

module _ {A : Type 0} {reads : ℕ → Reading (List A)} {m : ℕ} (w : Width) (limit : ℕ) (few : ℕ → Bool)
    (spell : A → List ℕ) (good : List A → Bool) (number : IsField (field (limited_at w 0 limit) (to_le_bytes w) few) m)
    (t : (n : ℕ) → IsField (field (reads n) (flat_map spell) (λ xs. eqb (length xs) n && good xs)) 0) where
  counted_there : (p : ℕ × List A) → (few p.0 && (eqb (length p.1) p.0 && good p.1)) ≡ true
      → (to_le_bytes w (length p.1) ++ flat_map spell p.1 ≡ to_le_bytes w p.0 ++ flat_map spell p.1)
      × ((few (length p.1) && good p.1) ≡ true)
  counted_there p h =
      let each = and_parts (few p.0) (eqb (length p.1) p.0 && good p.1) h in
      let rest = and_parts (eqb (length p.1) p.0) (good p.1) each.1 in
      let len : length p.1 ≡ p.0 = eqb-true (length p.1) p.0 rest.0 in
      (ap (λ n. to_le_bytes w n ++ flat_map spell p.1) len, and_from _ _ (ap few len ∙ each.0) rest.1)

  pub counts : IsField (counted_of w limit few reads spell good) (m + 0)
  unfolding counted_at
  counts =
      let whole = counted_of w limit few reads spell good in
      makes (thens number t) (λ p. p.1) whole.spelling whole.fitting (λ p _ h. counted_there p h)
      (λ xs h.
      let each = and_parts (few (length xs)) (good xs) h in
      ((length xs, xs), refl, refl, and_from _ _ each.0 (and_from _ _ (eq-eqb (length xs) (length xs) refl) each.1)))
