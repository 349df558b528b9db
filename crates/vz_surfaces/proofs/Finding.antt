-- What is found in lists whose elements changed, and in lists with one element more.
use Rattle.std.proofs.Common.{arith, ◌≡◌, ◌+◌, Bool, true, false, ◌⊎◌, inl, inr, Option, Some, None, List, [], ◌∷◌, ◌++◌, map, find, refl, ap, sym, ◌∙◌, cond, Contains, count_by}
use Rattle.std.proofs.lemmas.Bool.Decides.{nat_tests}
use Rattle.std.specs.Option.{option_map}
use Rattle.vz_rules.specs.Scene.{or_else}
use Rattle.vz_rules.proofs.Members.{contains_here, contains_there, contains_none, contains_cases}
use Rattle.vz_rules.proofs.Counts.{count_cons}

module _ {A : Type 0} where
  -- what passes stays as it is, and nothing else comes to pass
  pub find_fixed : (p : A → Bool) (f : A → A) (xs : List A) → ((x : A) → Contains xs x → p (f x) ≡ p x) → ((x : A) → Contains xs x → p x ≡ true → f x ≡ x) → find p (map f xs) ≡ find p xs
  find_fixed p f [] same fixed = refl
  find_fixed p f (x ∷ xs) same fixed =
      ap (λ (t : Bool). cond t (Some (f x)) (find p (map f xs))) (same x (contains_here x xs))
      ∙ (elim (p x) as (λ (t : Bool). p x ≡ t → cond t (Some (f x)) (find p (map f xs)) ≡ cond t (Some x) (find p xs)) [
        | true ↦ λ e. ap (λ z. Some z) (fixed x (contains_here x xs) e)
        | false ↦ λ e. find_fixed p f xs (λ y c. same y (contains_there x y xs c)) (λ y c. fixed y (contains_there x y xs c))
      ] refl)

  -- where none passes none is found
  pub find_none : (p : A → Bool) (xs : List A) → ((x : A) → Contains xs x → p x ≡ false) → find p xs ≡ None
  find_none p [] h = refl
  find_none p (x ∷ xs) h = ap (λ (t : Bool). cond t (Some x) (find p xs)) (h x (contains_here x xs)) ∙ find_none p xs (λ y c. h y (contains_there x y xs c))

  -- one element more at the end is found where none before it is
  pub find_end : (p : A → Bool) (xs : List A) (y : A) → find p (xs ++ y ∷ []) ≡ or_else (find p xs) (cond (p y) (Some y) None)
  find_end p [] y = refl
  find_end p (x ∷ xs) y = grind (arith, nat_tests, find_end p xs y)

  or_none : (o : Option A) → or_else o None ≡ o
  or_none None = refl
  or_none (Some a) = refl

  -- one that does not pass is not found
  pub find_not_end : (p : A → Bool) (xs : List A) (y : A) → p y ≡ false → find p (xs ++ y ∷ []) ≡ find p xs
  find_not_end p xs y e = find_end p xs y ∙ (ap (λ (t : Bool). or_else (find p xs) (cond t (Some y) None)) e ∙ or_none (find p xs))

  -- where all that pass read alike, and one passes, that is read
  pub find_alike : {B : Type 0} (p : A → Bool) (r : A → B) (v : B) (xs : List A) (x : A) → Contains xs x → p x ≡ true → ((y : A) → Contains xs y → p y ≡ true → r y ≡ v)
      → option_map r (find p xs) ≡ Some v
  find_alike p r v [] x c e alike = absurd (contains_none x c)
  find_alike p r v (y ∷ ys) x c e alike =
      elim (p y) as (λ (t : Bool). p y ≡ t → option_map r (cond t (Some y) (find p ys)) ≡ Some v) [
        | true ↦ λ f. ap (λ z. Some z) (alike y (contains_here y ys) f)
        | false ↦ λ f. later (contains_cases y x ys c) f (λ r. find_alike p _ v ys x r e (λ z d. alike z (contains_there y z ys d)))
      ] refl
    where
      later : (y ≡ x) ⊎ Contains ys x → p y ≡ false → (Contains ys x → option_map r (find p ys) ≡ Some v) → option_map r (find p ys) ≡ Some v
      later (inl s) f rest = let no_way : false ≡ true = sym f ∙ (ap p s ∙ e) in absurd (cc)
      later (inr d) f rest = rest d

  -- how many pass, where the tests are the same
  pub count_kept : (p : A → Bool) (f : A → A) (xs : List A) → ((x : A) → Contains xs x → p (f x) ≡ p x) → count_by p (map f xs) ≡ count_by p xs
  count_kept p f [] same = refl
  count_kept p f (x ∷ xs) same =
      count_cons p (f x) (map f xs)
      ∙ (ap (λ (t : Bool). cond t 1 0 + count_by p (map f xs)) (same x (contains_here x xs))
      ∙ (ap (λ n. cond (p x) 1 0 + n) (count_kept p f xs (λ y c. same y (contains_there x y xs c))) ∙ sym (count_cons p x xs)))
