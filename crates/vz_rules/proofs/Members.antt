-- Members of lists and their places, after each was changed and after one more was put at the end.
use Rattle.std.proofs.Common.{◌≡◌, ℕ, zero, suc, ◌<◌, Bool, true, false, ◌&&◌, ◌||◌, ◌⊎◌, inl, inr, Option, Some, None, List, [], ◌∷◌, ◌++◌, length, map, filter, take, get_or, refl, ap, sym, ◌∙◌, arith, cond, subst, slice_get, Contains, find, is_some}
use Rattle.std.proofs.lemmas.Bool.{both_ways}
use Rattle.std.specs.List.{list_any, list_all, filter_map, flat_map, cons_option}
use Rattle.vz_rules.proofs.Facts.{or_true}
pub use Rattle.std.proofs.lemmas.List.Elements.{Contains-push_cases as contains_push, Contains-push as push_contains_last, Contains-append_cases as append_contains}

-- Members

pub contains_here : {A : Type 0} (x : A) (xs : List A) → Contains (x ∷ xs) x
contains_here x xs = (0, omega arith, refl)

pub contains_there : {A : Type 0} (x y : A) (xs : List A) → Contains xs y → Contains (x ∷ xs) y
contains_there x y xs c = (suc c.0, omega (arith, c.1), c.2)

contains_by : {A : Type 0} (x y : A) (xs : List A) (k : ℕ) → k < length (x ∷ xs) → get_or (x ∷ xs) k y ≡ y → (x ≡ y) ⊎ Contains xs y
contains_by x y xs zero h e = inl e
contains_by x y xs (suc k) h e = inr (k, omega (arith, h), e)

pub contains_cases : {A : Type 0} (x y : A) (xs : List A) → Contains (x ∷ xs) y → (x ≡ y) ⊎ Contains xs y
contains_cases x y xs c = contains_by x y xs c.0 c.1 c.2

pub contains_none : {A : Type 0} (y : A) → Contains [] y → ⊥
contains_none y c = let h : c.0 < 0 = c.1 in omega arith

-- a member of a changed list was changed from a member
pub contains_map : {A B : Type 0} (f : A → B) (xs : List A) (y : B) → Contains (map f xs) y → (x : A) × Contains xs x × (f x ≡ y)
contains_map f [] y c = absurd (contains_none y c)
contains_map f (x ∷ xs) y c =
    elim (contains_cases (f x) y (map f xs) c) [
      | inl e ↦ (x, contains_here x xs, e)
      | inr r ↦ let m = contains_map f xs y r in (m.0, contains_there x m.0 xs m.1, m.2)
    ]

pub map_contains : {A B : Type 0} (f : A → B) (xs : List A) (x : A) → Contains xs x → Contains (map f xs) (f x)
map_contains f [] x c = absurd (contains_none x c)
map_contains f (y ∷ xs) x c =
    elim (contains_cases y x xs c) [
      | inl e ↦ subst (λ z. Contains (f y ∷ map f xs) (f z)) e (contains_here (f y) (map f xs))
      | inr r ↦ contains_there (f y) (f x) (map f xs) (map_contains f xs x r)
    ]

pub push_contains : {A : Type 0} (xs : List A) (y x : A) → Contains xs x → Contains (xs ++ y ∷ []) x
push_contains [] y x c = absurd (contains_none x c)
push_contains (z ∷ xs) y x c =
    elim (contains_cases z x xs c) [
      | inl e ↦ subst (λ w. Contains (z ∷ (xs ++ y ∷ [])) w) e (contains_here z (xs ++ y ∷ []))
      | inr r ↦ contains_there z x (xs ++ y ∷ []) (push_contains xs y x r)
    ]

-- Places

pub none_not_some : {A : Type 0} (x : A) → ◌≡◌ {A = Option A} None (Some x) → ⊥
none_not_some x h = absurd (cc)

pub at_contains : {A : Type 0} (xs : List A) (n : ℕ) (x : A) → slice_get xs n ≡ Some x → Contains xs x
at_contains [] n x h = absurd (none_not_some x h)
at_contains (y ∷ xs) zero x h = let e : y ≡ x = cc in subst (λ z. Contains (y ∷ xs) z) e (contains_here y xs)
at_contains (y ∷ xs) (suc n) x h = contains_there y x xs (at_contains xs n x h)

pub contains_at : {A : Type 0} (xs : List A) (x : A) → Contains xs x → (n : ℕ) × (slice_get xs n ≡ Some x)
contains_at [] x c = absurd (contains_none x c)
contains_at (y ∷ xs) x c =
    elim (contains_cases y x xs c) [
      | inl e ↦ (0, ap (λ z. Some z) e)
      | inr r ↦ let m = contains_at xs x r in (suc m.0, m.1)
    ]

pub at_within : {A : Type 0} (xs : List A) (n : ℕ) (x : A) → slice_get xs n ≡ Some x → n < length xs
at_within [] n x h = absurd (none_not_some x h)
at_within (y ∷ xs) zero x h = omega arith
at_within (y ∷ xs) (suc n) x h = omega (arith, at_within xs n x h)

pub at_same : {A : Type 0} (xs : List A) (n m : ℕ) (x y : A) → slice_get xs n ≡ Some x → slice_get xs m ≡ Some y → n ≡ m → x ≡ y
at_same xs n m x y h k e = let o : ◌≡◌ {A = Option _} (Some x) (Some y) = sym h ∙ (ap (slice_get xs) e ∙ k) in cc

pub at_map : {A B : Type 0} (f : A → B) (xs : List A) (n : ℕ) (y : B) → slice_get (map f xs) n ≡ Some y → (x : A) × (slice_get xs n ≡ Some x) × (f x ≡ y)
at_map f [] n y h = absurd (none_not_some y h)
at_map f (x ∷ xs) zero y h = (x, refl, cc)
at_map f (x ∷ xs) (suc n) y h = at_map f xs n y h

pub at_push : {A : Type 0} (xs : List A) (y : A) (n : ℕ) (x : A) → slice_get (xs ++ y ∷ []) n ≡ Some x
    → ((slice_get xs n ≡ Some x) × (take n (xs ++ y ∷ []) ≡ take n xs)) ⊎ ((n ≡ length xs) × (y ≡ x) × (take n (xs ++ y ∷ []) ≡ xs))
at_push [] y zero x h = inr (refl, cc, refl)
at_push [] y (suc n) x h = absurd (none_not_some x h)
at_push (z ∷ xs) y zero x h = inl (h, refl)
at_push (z ∷ xs) y (suc n) x h =
    elim (at_push xs y n x h) [
      | inl r ↦ inl (r.0, ap (λ l. z ∷ l) r.1)
      | inr r ↦ inr (omega (arith, r.0), r.1, ap (λ l. z ∷ l) r.2)
    ]

-- Tests

-- a member passes a test that all pass
pub all_at : {A : Type 0} (p : A → Bool) (xs : List A) (x : A) → list_all p xs ≡ true → Contains xs x → p x ≡ true
all_at p [] x h c = absurd (contains_none x c)
all_at p (y ∷ xs) x h c =
    elim (p y) as (λ (t : Bool). p y ≡ t → (t && list_all p xs) ≡ true → p x ≡ true) [
      | true ↦ λ e k. elim (contains_cases y x xs c) [ inl s ↦ ap p (sym s) ∙ e | inr r ↦ all_at p xs x k r ]
      | false ↦ λ e k. absurd (cc)
    ] refl h

pub all_from : {A : Type 0} (p : A → Bool) (xs : List A) → ((x : A) → Contains xs x → p x ≡ true) → list_all p xs ≡ true
all_from p [] h = refl
all_from p (y ∷ xs) h = ap (λ t. t && list_all p xs) (h y (contains_here y xs)) ∙ all_from p xs (λ x c. h x (contains_there y x xs c))

-- some member passes a test
pub any_at : {A : Type 0} (p : A → Bool) (xs : List A) → list_any p xs ≡ true → (x : A) × Contains xs x × (p x ≡ true)
any_at p [] h = absurd (cc)
any_at p (y ∷ xs) h =
    elim (p y) as (λ (t : Bool). p y ≡ t → (t || list_any p xs) ≡ true → (x : _) × Contains (y ∷ xs) x × (p x ≡ true)) [
      | true ↦ λ e k. (y, contains_here y xs, e)
      | false ↦ λ e k. let r = any_at p xs k in (r.0, contains_there y r.0 xs r.1, r.2)
    ] refl h

pub any_from : {A : Type 0} (p : A → Bool) (xs : List A) (x : A) → Contains xs x → p x ≡ true → list_any p xs ≡ true
any_from p [] x c h = absurd (contains_none x c)
any_from p (y ∷ xs) x c h =
    elim (contains_cases y x xs c) [
      | inl e ↦ ap (λ t. t || list_any p xs) (ap p e ∙ h)
      | inr r ↦ ap (λ t. p y || t) (any_from p xs x r h) ∙ or_true (p y)
    ]

pub any_none : {A : Type 0} (p : A → Bool) (xs : List A) → ((x : A) → Contains xs x → p x ≡ false) → list_any p xs ≡ false
any_none p [] h = refl
any_none p (y ∷ xs) h = ap (λ t. t || list_any p xs) (h y (contains_here y xs)) ∙ any_none p xs (λ x c. h x (contains_there y x xs c))

-- the first that passes
pub find_at : {A : Type 0} (p : A → Bool) (xs : List A) (x : A) → find p xs ≡ Some x → Contains xs x × (p x ≡ true)
find_at p [] x h = absurd (none_not_some x h)
find_at p (y ∷ xs) x h =
    elim (p y) as (λ (t : Bool). p y ≡ t → cond t (Some y) (find p xs) ≡ Some x → Contains (y ∷ xs) x × (p x ≡ true)) [
      | true ↦ λ e k. let s : y ≡ x = cc in (subst (λ z. Contains (y ∷ xs) z) s (contains_here y xs), ap p (sym s) ∙ e)
      | false ↦ λ e k. let r = find_at p xs x k in (contains_there y x xs r.0, r.1)
    ] refl h

pub found : {A : Type 0} (p : A → Bool) (xs : List A) → is_some (find p xs) ≡ list_any p xs
found p [] = refl
found p (y ∷ xs) = elim (p y) as (λ (t : Bool). is_some (cond t (Some y) (find p xs)) ≡ (t || list_any p xs)) [ true ↦ refl | false ↦ found p xs ]

-- what a filter keeps
pub filter_at : {A : Type 0} (p : A → Bool) (xs : List A) (x : A) → Contains (filter p xs) x → Contains xs x × (p x ≡ true)
filter_at p [] x c = absurd (contains_none x c)
filter_at p (y ∷ xs) x c =
    elim (p y) as (λ (t : Bool). p y ≡ t → Contains (cond t (y ∷ filter p xs) (filter p xs)) x → Contains (y ∷ xs) x × (p x ≡ true)) [
      | true ↦ λ e k. elim (contains_cases y x (filter p xs) k) [
        | inl s ↦ (subst (λ z. Contains (y ∷ xs) z) s (contains_here y xs), ap p (sym s) ∙ e)
        | inr r ↦ let m = filter_at p xs x r in (contains_there y x xs m.0, m.1)
      ]
      | false ↦ λ e k. let m = filter_at p xs x k in (contains_there y x xs m.0, m.1)
    ] refl c

pub filter_none : {A : Type 0} (p : A → Bool) (xs : List A) → ((x : A) → Contains xs x → p x ≡ false) → filter p xs ≡ []
filter_none p [] h = refl
filter_none p (y ∷ xs) h =
    ap (λ (t : Bool). cond t (y ∷ filter p xs) (filter p xs)) (h y (contains_here y xs)) ∙ filter_none p xs (λ x c. h x (contains_there y x xs c))

pub none_filtered : {A : Type 0} (p : A → Bool) (xs : List A) (x : A) → filter p xs ≡ [] → Contains xs x → p x ≡ false
none_filtered p [] x h c = absurd (contains_none x c)
none_filtered p (y ∷ xs) x h c =
    elim (p y) as (λ (t : Bool). p y ≡ t → cond t (y ∷ filter p xs) (filter p xs) ≡ [] → p x ≡ false) [
      | true ↦ λ e k. absurd (cc)
      | false ↦ λ e k. elim (contains_cases y x xs c) [ inl s ↦ ap p (sym s) ∙ e | inr r ↦ none_filtered p xs x k r ]
    ] refl h

pub filter_has : {A : Type 0} (p : A → Bool) (xs : List A) (x : A) → Contains xs x → p x ≡ true → Contains (filter p xs) x
filter_has p [] x c h = absurd (contains_none x c)
filter_has p (y ∷ xs) x c h =
    elim (p y) as (λ (t : Bool). p y ≡ t → Contains (cond t (y ∷ filter p xs) (filter p xs)) x) [
      | true ↦ λ e. elim (contains_cases y x xs c) [
        | inl s ↦ subst (λ z. Contains (y ∷ filter p xs) z) s (contains_here y (filter p xs))
        | inr r ↦ contains_there y x (filter p xs) (filter_has p xs x r h)
      ]
      | false ↦ λ e. elim (contains_cases y x xs c) [
        | inl s ↦ absurd (both_ways (p y) e (ap p s ∙ h))
        | inr r ↦ filter_has p xs x r h
      ]
    ] refl

pub none_at : {A : Type 0} (p : A → Bool) (xs : List A) (x : A) → list_any p xs ≡ false → Contains xs x → p x ≡ false
none_at p xs x h c =
    elim (p x) as (λ (t : Bool). p x ≡ t → p x ≡ false) [
      | true ↦ λ e. absurd (both_ways (list_any p xs) h (any_from p xs x c e))
      | false ↦ λ e. e
    ] refl

-- what a filter with a map gives
pub filter_map_at : {A B : Type 0} (h : A → Option B) (xs : List A) (y : B) → Contains (filter_map h xs) y → (x : A) × Contains xs x × (h x ≡ Some y)
filter_map_at h [] y c = absurd (contains_none y c)
filter_map_at h (x ∷ xs) y c =
    elim (h x) as (λ (o : Option _). h x ≡ o → Contains (cons_option o (filter_map h xs)) y → (z : _) × Contains (x ∷ xs) z × (h z ≡ Some y)) [
      | None ↦ λ e k. let m = filter_map_at h xs y k in (m.0, contains_there x m.0 xs m.1, m.2)
      | Some b ↦ λ e k. elim (contains_cases b y (filter_map h xs) k) [
        | inl s ↦ (x, contains_here x xs, e ∙ ap (λ z. Some z) s)
        | inr r ↦ let m = filter_map_at h xs y r in (m.0, contains_there x m.0 xs m.1, m.2)
      ]
    ] refl c

pub filter_map_has : {A B : Type 0} (h : A → Option B) (xs : List A) (x : A) (y : B) → Contains xs x → h x ≡ Some y → Contains (filter_map h xs) y
filter_map_has h [] x y c e = absurd (contains_none x c)
filter_map_has h (z ∷ xs) x y c e =
    elim (contains_cases z x xs c) [
      | inl s ↦ subst (λ (o : Option _). Contains (cons_option o (filter_map h xs)) y) (sym (ap h s ∙ e)) (contains_here y (filter_map h xs))
      | inr r ↦ elim (h z) as (λ (o : Option _). Contains (cons_option o (filter_map h xs)) y) [
        | None ↦ filter_map_has h xs x y r e
        | Some b ↦ contains_there b y (filter_map h xs) (filter_map_has h xs x y r e)
      ]
    ]

pub map_fixed : {A : Type 0} (f : A → A) (xs : List A) → ((x : A) → Contains xs x → f x ≡ x) → map f xs ≡ xs
map_fixed f [] h = refl
map_fixed f (x ∷ xs) h = ap (λ y. y ∷ map f xs) (h x (contains_here x xs)) ∙ ap (λ l. x ∷ l) (map_fixed f xs (λ y c. h y (contains_there x y xs c)))

pub any_map : {A B : Type 0} (f : A → B) (p : B → Bool) (q : A → Bool) (xs : List A) → ((x : A) → p (f x) ≡ q x) → list_any p (map f xs) ≡ list_any q xs
any_map f p q [] h = refl
any_map f p q (x ∷ xs) h = ap (λ t. t || list_any p (map f xs)) (h x) ∙ ap (λ t. q x || t) (any_map f p q xs h)

pub flat_map_at : {A B : Type 0} (h : A → List B) (xs : List A) (y : B) → Contains (flat_map h xs) y → (x : A) × Contains xs x × Contains (h x) y
flat_map_at h [] y c = absurd (contains_none y c)
flat_map_at h (x ∷ xs) y c =
    elim (append_contains (h x) (flat_map h xs) y c) [
      | inl r ↦ (x, contains_here x xs, r)
      | inr r ↦ let m = flat_map_at h xs y r in (m.0, contains_there x m.0 xs m.1, m.2)
    ]

-- Choices

-- what a change keeps is kept where it is made or not
pub when_same : {A B : Type 0} (p : A → B) (h : A → A) (t : Bool) (x : A) → p (h x) ≡ p x → p (cond t (h x) x) ≡ p x
when_same p h true x e = e
when_same p h false x e = refl

-- two tests that imply one another are one
pub same_tests : (a b : Bool) → (a ≡ true → b ≡ true) → (b ≡ true → a ≡ true) → a ≡ b
same_tests true true f g = refl
same_tests true false f g = sym (f refl)
same_tests false true f g = g refl
same_tests false false f g = refl
