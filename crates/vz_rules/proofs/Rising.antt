-- Lists by rising keys, look-ups by key, and sums over one key.
use Rattle.std.proofs.Common.{◌≡◌, ℕ, ◌+◌, Bool, true, false, ◌&&◌, ◌==◌, Option, Some, None, List, [], ◌∷◌, map, refl, ap, sym, ◌∙◌, cond, arith, find, sum_by, IsTrue}
use Rattle.std.specs.Prelude.{nat_lt}
use Rattle.std.specs.List.{list_all, flat_map, filter_map, cons_option}
use Rattle.std.specs.Option.{option_map}
use Rattle.std.proofs.lemmas.Bool.{and_parts, eqb-true, ltb-true, ne_eqb}
use Rattle.std.proofs.lemmas.List.Sums.{sum_by-cons, sum_by-append}

-- Look-ups

pub find_map : {A : Type 0} (t : A → Bool) (f : A → A) (xs : List A) → ((x : A) → t (f x) ≡ t x) → find t (map f xs) ≡ option_map f (find t xs)
find_map t f [] same = refl
find_map t f (x ∷ xs) same =
    ap (λ (b : Bool). cond b (Some (f x)) (find t (map f xs))) (same x)
    ∙ elim (t x) as (λ (b : Bool). cond b (Some (f x)) (find t (map f xs)) ≡ option_map f (cond b (Some x) (find t xs))) [ true ↦ refl | false ↦ find_map t f xs same ]

pub find_test : {A : Type 0} (t : A → Bool) (xs : List A) (x : A) → find t xs ≡ Some x → t x ≡ true
find_test t [] x h = absurd (cc)
find_test t (y ∷ xs) x h =
    elim (t y) as (λ (b : Bool). t y ≡ b → cond b (Some y) (find t xs) ≡ Some x → t x ≡ true) [
      | true ↦ λ e k. let s : y ≡ x = cc in ap t (sym s) ∙ e
      | false ↦ λ e k. find_test t xs x k
    ] refl h

-- what is in an option was mapped from what was in it
pub mapped_some : {A B : Type 0} (f : A → B) (o : Option A) (y : B) → option_map f o ≡ Some y → (x : A) × (o ≡ Some x) × (f x ≡ y)
mapped_some f None y h = absurd (cc)
mapped_some f (Some x) y h = (x, refl, cc)

-- Sums

pub sum_same : {A : Type 0} (f g : A → ℕ) (xs : List A) → ((x : A) → f x ≡ g x) → sum_by f xs ≡ sum_by g xs
sum_same f g [] same = refl
sum_same f g (x ∷ xs) same = sum_by-cons f x xs ∙ (ap (λ n. n + sum_by f xs) (same x) ∙ (ap (λ n. g x + n) (sum_same f g xs same) ∙ sym (sum_by-cons g x xs)))

pub sum_flat : {A B : Type 0} (f : B → ℕ) (g : A → List B) (xs : List A) → sum_by f (flat_map g xs) ≡ sum_by (λ x. sum_by f (g x)) xs
sum_flat f g [] = refl
sum_flat f g (x ∷ xs) =
    sum_by-append f (g x) (flat_map g xs) ∙ (ap (λ n. sum_by f (g x) + n) (sum_flat f g xs) ∙ sym (sum_by-cons (λ y. sum_by f (g y)) x xs))

-- a number of what may be there
abbrev pub counted : {B : Type 0} → (B → ℕ) → Option B → ℕ
counted f o = elim o [ Some b ↦ f b | None ↦ 0 ]

sum_first : {B : Type 0} (f : B → ℕ) (o : Option B) (ys : List B) → sum_by f (cons_option o ys) ≡ counted f o + sum_by f ys
sum_first f None ys = omega arith
sum_first f (Some b) ys = sum_by-cons f b ys

pub sum_filtered : {A B : Type 0} (f : B → ℕ) (g : A → Option B) (xs : List A) → sum_by f (filter_map g xs) ≡ sum_by (λ x. counted f (g x)) xs
sum_filtered f g [] = refl
sum_filtered f g (x ∷ xs) =
    sum_first f (g x) (filter_map g xs) ∙ (ap (λ n. counted f (g x) + n) (sum_filtered f g xs) ∙ sym (sum_by-cons (λ y. counted f (g y)) x xs))

module _ {A : Type 0} (key : A → ℕ) where
  -- the keys rise
  abbrev pub Rising : List A → Type 0
  Rising [] = Unit {0}
  Rising (x ∷ xs) = IsTrue (list_all (λ y. nat_lt (key x) (key y)) xs) × Rising xs

  above_map : (n : ℕ) (f : A → A) (xs : List A) → ((x : A) → key (f x) ≡ key x) → list_all (λ y. nat_lt n (key y)) (map f xs) ≡ list_all (λ y. nat_lt n (key y)) xs
  above_map n f [] same = refl
  above_map n f (x ∷ xs) same =
      ap (λ k. nat_lt n k && list_all (λ y. nat_lt n (key y)) (map f xs)) (same x) ∙ ap (λ t. nat_lt n (key x) && t) (above_map n f xs same)

  pub rising_map : (f : A → A) (xs : List A) → ((x : A) → key (f x) ≡ key x) → Rising xs → Rising (map f xs)
  rising_map f [] same h = tt
  rising_map f (x ∷ xs) same h =
      (ap (λ n. list_all (λ y. nat_lt n (key y)) (map f xs)) (same x) ∙ (above_map (key x) f xs same ∙ h.0), rising_map f xs same h.1)

  -- a number that is 0 for each other key
  abbrev pub IsOfKey : ℕ → (A → ℕ) → Type 0
  IsOfKey n f = (y : A) → (key y == n) ≡ false → f y ≡ 0

  sum_above : (n : ℕ) (f : A → ℕ) (xs : List A) → IsOfKey n f → list_all (λ y. nat_lt n (key y)) xs ≡ true → sum_by f xs ≡ 0
  sum_above n f [] of h = refl
  sum_above n f (x ∷ xs) of h =
      let both = and_parts (nat_lt n (key x)) (list_all (λ y. nat_lt n (key y)) xs) h in
      let less = ltb-true n (key x) both.0 in
      omega (arith, sum_by-cons f x xs, of x (ne_eqb (key x) n (λ e. omega (arith, e, less))), sum_above n f xs of both.1)

  -- the sum of such numbers is that of the one that has the key
  pub sum_one : (n : ℕ) (f : A → ℕ) (xs : List A) → IsOfKey n f → Rising xs → sum_by f xs ≡ counted f (find (λ y. key y == n) xs)
  sum_one n f [] of h = refl
  sum_one n f (x ∷ xs) of h =
      elim (key x == n) as (λ (t : Bool). (key x == n) ≡ t → sum_by f (x ∷ xs) ≡ counted f (cond t (Some x) (find (λ y. key y == n) xs))) [
        | true ↦ λ e.
            let above : list_all (λ y. nat_lt n (key y)) xs ≡ true = ap (λ m. list_all (λ y. nat_lt m (key y)) xs) (sym (eqb-true (key x) n e)) ∙ h.0 in
            omega (arith, sum_by-cons f x xs, sum_above n f xs of above)
        | false ↦ λ e. omega (arith, sum_by-cons f x xs, of x e, sum_one n f xs of h.1)
      ] refl

  -- none of rising keys is found below the first
  pub find_above : (n : ℕ) (xs : List A) → list_all (λ y. nat_lt n (key y)) xs ≡ true → find (λ y. key y == n) xs ≡ None
  find_above n [] h = refl
  find_above n (x ∷ xs) h =
      let both = and_parts (nat_lt n (key x)) (list_all (λ y. nat_lt n (key y)) xs) h in
      let less = ltb-true n (key x) both.0 in
      ap (λ (t : Bool). cond t (Some x) (find (λ y. key y == n) xs)) (ne_eqb (key x) n (λ e. omega (arith, e, less))) ∙ find_above n xs both.1
