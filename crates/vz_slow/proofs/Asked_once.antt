-- A surface whose references were added has nothing more to add.
use Rattle.std.proofs.Common.{◌≡◌, ℕ, ◌-◌, ◌<◌, ◌≤◌, Bool, true, false, ◌||◌, cond, List, [], ◌∷◌, ◌++◌, take, drop, length, refl, sym, ap, ◌∙◌, append-nil, append_assoc, length-append, length-drop, take-append-drop, arith}
use Rattle.std.specs.List.{list_any, flat_map}
use Rattle.std.proofs.lemmas.Grind.{flat_map-append}
use Rattle.std.proofs.lemmas.List.Folds.{list_any-append}
use Rattle.vz_rules.specs.Closure.{adding, closure}
use Rattle.vz_state.proofs.Closing.{closure_next, closure_end}

whole : {A : Type 0} (xs : List A) → take (length xs) xs ≡ xs
whole [] = refl
whole (x ∷ xs) = ap (λ l. x ∷ l) (whole xs)

-- a list from a place on, as a slice has it
pub rest_is : {A : Type 0} (n : ℕ) (xs : List A) → take (length xs - n) (drop n xs) ≡ drop n xs
rest_is n xs =
    let many : length xs - n ≡ length (drop n xs) = grind (arith, length-drop) in
    ap (λ k. take k (drop n xs)) many ∙ whole (drop n xs)

-- a test for being the same
module _ {A : Type 0} (same : A → A → Bool) (self_same : (a : A) → same a a ≡ true) where
  kept_by : (x y : A) (xs : List A) (t : Bool) → list_any (same x) xs ≡ true → list_any (same x) (cond t xs (xs ++ y ∷ [])) ≡ true
  kept_by x y xs true h = h
  kept_by x y xs false h = list_any-append (same x) xs (y ∷ []) ∙ ap (λ b. b || list_any (same x) (y ∷ [])) h

  -- what is there stays
  adding_keeps : (ys xs : List A) (x : A) → list_any (same x) xs ≡ true → list_any (same x) (adding same xs ys) ≡ true
  adding_keeps [] xs x h = h
  adding_keeps (y ∷ ys) xs x h = adding_keeps ys (cond (list_any (same y) xs) xs (xs ++ y ∷ [])) x (kept_by x y xs (list_any (same y) xs) h)

  put_in : (y : A) (xs : List A) (t : Bool) → list_any (same y) xs ≡ t → list_any (same y) (cond t xs (xs ++ y ∷ [])) ≡ true
  put_in y xs true e = e
  put_in y xs false e = list_any-append (same y) xs (y ∷ []) ∙ (ap (λ b. b || list_any (same y) (y ∷ [])) e ∙ ap (λ b. b || false) (self_same y))

  -- all of a list are in another
  abbrev AllIn : List A → List A → Type 0
  AllIn xs [] = Unit {0}
  AllIn xs (y ∷ ys) = (list_any (same y) xs ≡ true) × AllIn xs ys

  all_added : (ys xs : List A) → AllIn (adding same xs ys) ys
  all_added [] xs = tt
  all_added (y ∷ ys) xs =
      let more : List A = cond (list_any (same y) xs) xs (xs ++ y ∷ []) in
      (adding_keeps ys more y (put_in y xs (list_any (same y) xs) refl), all_added ys more)

  none_new : (ys xs : List A) → AllIn xs ys → adding same xs ys ≡ xs
  none_new [] xs h = refl
  none_new (y ∷ ys) xs h = ap (λ t. adding same (cond t xs (xs ++ y ∷ [])) ys) h.0 ∙ none_new ys xs h.1

  -- what was added is not added again
  adding_again : (ys xs : List A) → adding same (adding same xs ys) ys ≡ adding same xs ys
  adding_again ys xs = none_new ys (adding same xs ys) (all_added ys xs)

  -- one list after the other
  adding_both : (ys zs xs : List A) → adding same xs (ys ++ zs) ≡ adding same (adding same xs ys) zs
  adding_both [] zs xs = refl
  adding_both (y ∷ ys) zs xs = adding_both ys zs (cond (list_any (same y) xs) xs (xs ++ y ∷ []))

  abbrev Behind : List A → List A → Type 0
  Behind xs all = (more : List A) × (all ≡ xs ++ more)

  behind_by : (t : Bool) (y : A) (xs ys : List A) → ((zs : List A) → Behind zs (adding same zs ys)) → Behind xs (adding same (cond t xs (xs ++ y ∷ [])) ys)
  behind_by true y xs ys h = h xs
  behind_by false y xs ys h = let r = h (xs ++ y ∷ []) in (y ∷ r.0, r.1 ∙ append_assoc xs (y ∷ []) r.0)

  -- what is added comes behind
  adding_behind : (ys xs : List A) → Behind xs (adding same xs ys)
  adding_behind [] xs = ([], sym (append-nil xs))
  adding_behind (y ∷ ys) xs = behind_by (list_any (same y) xs) y xs ys (adding_behind ys)

  front : (xs more : List A) → take (length xs) (xs ++ more) ≡ xs
  front [] more = refl
  front (x ∷ xs) more = ap (λ l. x ∷ l) (front xs more)

  adding_front : (ys xs : List A) → take (length xs) (adding same xs ys) ≡ xs
  adding_front ys xs = let r = adding_behind ys xs in ap (take (length xs)) r.1 ∙ front xs r.0

  -- and so nothing is lost
  pub adding_more : (ys xs new : List A) → new ≡ adding same xs ys → length xs ≤ length new
  adding_more ys xs new e =
      let r = adding_behind ys xs in
      let lengths = ap length (e ∙ r.1) ∙ length-append xs r.0 in
      omega (arith, lengths)

  -- the references of the first so many add nothing
  abbrev pub AreAsked : (A → List A) → ℕ → List A → Type 0
  AreAsked next asked xs = adding same xs (flat_map next (take asked xs)) ≡ xs

  -- then those of the others are enough
  pub others_enough : (next : A → List A) (asked : ℕ) (xs others : List A) → AreAsked next asked xs → others ≡ flat_map next (drop asked xs)
      → adding same xs others ≡ adding same xs (flat_map next xs)
  others_enough next asked xs others h e =
      let all : flat_map next (take asked xs) ++ flat_map next (drop asked xs) ≡ flat_map next xs =
      sym (flat_map-append next (take asked xs) (drop asked xs)) ∙ ap (flat_map next) (take-append-drop asked xs) in
      ap (adding same xs) e
      ∙ (ap (λ l. adding same l (flat_map next (drop asked xs))) (sym h)
      ∙ (sym (adding_both (flat_map next (take asked xs)) (flat_map next (drop asked xs)) xs) ∙ ap (adding same xs) all))

  -- and all of them were then asked
  pub all_asked : (next : A → List A) (asked : ℕ) (xs others new : List A) → AreAsked next asked xs → others ≡ flat_map next (drop asked xs) → new ≡ adding same xs others
      → AreAsked next (length xs) new
  all_asked next asked xs others new h e is =
      let new_is : new ≡ adding same xs (flat_map next xs) = is ∙ others_enough next asked xs others h e in
      ap (λ l. adding same l (flat_map next (take (length xs) l))) new_is
      ∙ (ap (λ l. adding same (adding same xs (flat_map next xs)) (flat_map next l)) (adding_front (flat_map next xs) xs)
      ∙ (adding_again (flat_map next xs) xs ∙ sym new_is))

  -- nothing was asked
  pub none_asked : (next : A → List A) (xs : List A) → AreAsked next 0 xs
  none_asked next xs = refl

  -- one step fewer is left
  pub step_on : (next : A → List A) (n asked : ℕ) (all xs others new : List A) → all ≡ closure same next n xs → 0 < n → AreAsked next asked xs → others ≡ flat_map next (drop asked xs)
      → new ≡ adding same xs others → all ≡ closure same next (n - 1) new
  step_on next n asked all xs others new was some h e is =
      was ∙ (closure_next same next n xs some ∙ ap (closure same next (n - 1)) (sym (is ∙ others_enough next asked xs others h e)))

  -- a step that adds nothing is the last
  pub step_last : (next : A → List A) (n asked : ℕ) (all xs others new : List A) → all ≡ closure same next n xs → AreAsked next asked xs → others ≡ flat_map next (drop asked xs)
      → new ≡ adding same xs others → length new ≡ length xs → new ≡ all
  step_last next n asked all xs others new was h e is as_many =
      sym (was ∙ closure_end same next n xs (flat_map next xs) new refl (is ∙ others_enough next asked xs others h e) as_many)
