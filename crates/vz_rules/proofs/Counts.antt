-- How many pass a test, after each was changed and after one more was put at the end.
use Rattle.std.proofs.lemmas.Bool.{cases_order}
use Rattle.std.proofs.Common.{◌≡◌, ℕ, zero, suc, ◌+◌, ◌<◌, ◌≤◌, Bool, true, false, inl, inr, Some, List, [], ◌∷◌, ◌++◌, map, take, refl, ap, sym, ◌∙◌, arith, cond, slice_get, Contains, count_by}
use Rattle.std.proofs.lemmas.List.Sums.{sum_by-cons, sum_by_push}
use Rattle.vz_rules.proofs.Members.{contains_here, contains_there}

one_less : (a b : Bool) → (a ≡ true → b ≡ true) → cond a 1 0 ≤ cond b 1 0
one_less false b h = omega arith
one_less true b h = let e : b ≡ true = h refl in rw e (omega arith)

pub count_cons : {A : Type 0} (p : A → Bool) (x : A) (xs : List A) → count_by p (x ∷ xs) ≡ cond (p x) 1 0 + count_by p xs
count_cons p x xs = sum_by-cons (λ y. cond (p y) 1 0) x xs

pub count_push : {A : Type 0} (p : A → Bool) (xs : List A) (x : A) → count_by p (xs ++ x ∷ []) ≡ count_by p xs + cond (p x) 1 0
count_push p xs x = sum_by_push (λ y. cond (p y) 1 0) xs x

-- fewer pass a stricter test
pub count_less : {A B : Type 0} (f : A → B) (p : B → Bool) (q : A → Bool) (xs : List A) → ((x : A) → Contains xs x → p (f x) ≡ true → q x ≡ true)
    → count_by p (map f xs) ≤ count_by q xs
count_less f p q [] h = omega arith
count_less f p q (x ∷ xs) h =
    omega (
      arith,
      count_cons p (f x) (map f xs),
      count_cons q x xs,
      one_less (p (f x)) (q x) (h x (contains_here x xs)),
      count_less f p q xs (λ y c. h y (contains_there x y xs c)),
    )

-- as many pass a test that says the same
pub count_same : {A B : Type 0} (f : A → B) (p : B → Bool) (q : A → Bool) (xs : List A) → ((x : A) → p (f x) ≡ q x) → count_by p (map f xs) ≡ count_by q xs
count_same f p q [] h = refl
count_same f p q (x ∷ xs) h =
    count_cons p (f x) (map f xs) ∙ (ap (λ (t : Bool). cond t 1 0 + count_by p (map f xs)) (h x) ∙ (ap (λ n. cond (q x) 1 0 + n) (count_same f p q xs h) ∙ sym (count_cons q x xs)))

pub count_none : {A : Type 0} (p : A → Bool) (xs : List A) → ((x : A) → Contains xs x → p x ≡ false) → count_by p xs ≡ 0
count_none p [] h = refl
count_none p (x ∷ xs) h =
    count_cons p x xs ∙ (ap (λ (t : Bool). cond t 1 0 + count_by p xs) (h x (contains_here x xs)) ∙ omega (arith, count_none p xs (λ y c. h y (contains_there x y xs c))))

pub take_map : {A B : Type 0} (f : A → B) (n : ℕ) (xs : List A) → take n (map f xs) ≡ map f (take n xs)
take_map f zero xs = refl
take_map f (suc n) [] = refl
take_map f (suc n) (x ∷ xs) = ap (λ l. f x ∷ l) (take_map f n xs)

-- one that passes is not among those before it
pub count_at : {A : Type 0} (p : A → Bool) (xs : List A) (n : ℕ) (x : A) → slice_get xs n ≡ Some x → p x ≡ true → count_by p (take n xs) + 1 ≤ count_by p xs
count_at p [] n x h e = absurd (cc)
count_at p (y ∷ xs) zero x h e =
    let s : y ≡ x = cc in
    let k : p y ≡ true = ap p s ∙ e in
    let c : ◌≡◌ {A = ℕ} (cond (p y) 1 0) 1 = rw k refl in
    omega (arith, count_cons p y xs, c)
count_at p (y ∷ xs) (suc n) x h e = omega (arith, count_cons p y (take n xs), count_cons p y xs, count_at p xs n x h e)

pub count_before : {A : Type 0} (p : A → Bool) (xs : List A) (n m : ℕ) (x : A) → slice_get xs n ≡ Some x → p x ≡ true → n < m
    → count_by p (take n xs) + 1 ≤ count_by p (take m xs)
count_before p [] n m x h e l = absurd (cc)
count_before p (y ∷ xs) n zero x h e l = omega arith
count_before p (y ∷ xs) zero (suc m) x h e l =
    let s : y ≡ x = cc in
    let k : p y ≡ true = ap p s ∙ e in
    let c : ◌≡◌ {A = ℕ} (cond (p y) 1 0) 1 = rw k refl in
    omega (arith, count_cons p y (take m xs), c)
count_before p (y ∷ xs) (suc n) (suc m) x h e l =
    omega (arith, count_cons p y (take n xs), count_cons p y (take m xs), count_before p xs n m x h e (omega (arith, l)))

-- of at most one that passes there is one place
pub one_place : {A : Type 0} (p : A → Bool) (xs : List A) (n m : ℕ) (x y : A) → count_by p xs ≤ 1 → slice_get xs n ≡ Some x → slice_get xs m ≡ Some y
    → p x ≡ true → p y ≡ true → n ≡ m
one_place p xs n m x y few h k e f =
    elim (cases_order n m) [
      | inl s ↦ s
      | inr r ↦ elim r [
        | inl l ↦ absurd (omega (arith, few, count_before p xs n m x h e l, count_at p xs m y k f))
        | inr l ↦ absurd (omega (arith, few, count_before p xs m n y k f l, count_at p xs n x h e))
      ]
    ]
