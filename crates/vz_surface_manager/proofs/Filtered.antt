-- Lists that are filtered and mapped.
use Rattle.std.proofs.Common.{◌≡◌, ◌+◌, Bool, true, false, not, ◌&&◌, List, [], ◌∷◌, length, map, filter, refl, ap, ◌∙◌, arith, cond, Contains}
use Rattle.vz_ids.specs.Ids.{same_sub}
use Rattle.vz_rules.specs.World.{Submission, sub_of, has_sub}
use Rattle.vz_rules.proofs.Members.{contains_here, contains_there, contains_map, map_contains, filter_at, filter_has, any_at, any_from, same_tests}
use Rattle.vz_rules.proofs.Kept_singly.{Apart, own_sub}
use Rattle.std.proofs.lemmas.Bool.Decides.{nat_tests}

-- tests that say the same of each
pub filter_alike : {A : Type 0} (p q : A → Bool) (xs : List A) → ((x : A) → Contains xs x → p x ≡ q x) → filter p xs ≡ filter q xs
filter_alike p q [] h = refl
filter_alike p q (x ∷ xs) h =
    (λ i. cond (h x (contains_here x xs) i) (x ∷ filter p xs) (filter p xs)) ∙ ap (λ l. cond (q x) (x ∷ l) l) (filter_alike p q xs (λ y c. h y (contains_there x y xs c)))

-- two tests, one after another
pub filter_twice : {A : Type 0} (p q : A → Bool) (xs : List A) → filter p (filter q xs) ≡ filter (λ x. q x && p x) xs
filter_twice p q [] = refl
filter_twice p q (x ∷ xs) = grind (arith, nat_tests, filter_twice p q xs)

-- a test of what was made of each
pub filter_mapped : {A B : Type 0} (r : B → Bool) (g : A → B) (xs : List A) → filter r (map g xs) ≡ map g (filter (λ x. r (g x)) xs)
filter_mapped r g [] = refl
filter_mapped r g (x ∷ xs) = grind (arith, nat_tests, filter_mapped r g xs)

-- what is made of those that pass, where each was changed before
pub filter_changed : {A B : Type 0} (f : A → A) (g : A → B) (p q : A → Bool) (xs : List A) → ((x : A) → Contains xs x → p (f x) ≡ q x)
    → ((x : A) → q x ≡ true → g (f x) ≡ g x) → map g (filter p (map f xs)) ≡ map g (filter q xs)
filter_changed f g p q [] h k = refl
filter_changed f g p q (x ∷ xs) h k =
    ap (λ (t : Bool). map g (cond t (f x ∷ filter p (map f xs)) (filter p (map f xs)))) (h x (contains_here x xs))
    ∙ (elim (q x) as (λ (t : Bool). q x ≡ t → map g (cond t (f x ∷ filter p (map f xs)) (filter p (map f xs))) ≡ map g (cond t (x ∷ filter q xs) (filter q xs))) [
      | true ↦ λ e. (λ i. k x e i ∷ filter_changed f g p q xs (λ y c. h y (contains_there x y xs c)) k i)
      | false ↦ λ e. filter_changed f g p q xs (λ y c. h y (contains_there x y xs c)) k
    ] refl)

-- a test that none fails
pub filter_all : {A : Type 0} (xs : List A) → filter (λ x. true) xs ≡ xs
filter_all [] = refl
filter_all (x ∷ xs) = ap (λ l. x ∷ l) (filter_all xs)

-- those that pass and those that do not are all
pub both_lengths : {A : Type 0} (p : A → Bool) (xs : List A) → length (filter (λ x. not (p x)) xs) + length (filter p xs) ≡ length xs
both_lengths p [] = refl
both_lengths p (x ∷ xs) = grind (arith, nat_tests, both_lengths p xs)

-- Names

-- a name is one of those that pass where its own submission passes
pub named_is : (q : Submission → Bool) (subs : List Submission) (s : Submission) → Apart subs → Contains subs s → has_sub (map sub_of (filter q subs)) (sub_of s) ≡ q s
named_is q subs s names c =
    same_tests (has_sub (map sub_of (filter q subs)) (sub_of s)) (q s)
    (λ e.
    let m = any_at (same_sub (sub_of s)) (map sub_of (filter q subs)) e in
    let t = contains_map sub_of (filter q subs) m.0 m.1 in
    let at = filter_at q subs t.0 t.1 in
    ap q (names s t.0 c at.0 (ap (same_sub (sub_of s)) t.2 ∙ m.2)) ∙ at.1)
    (λ e. any_from (same_sub (sub_of s)) (map sub_of (filter q subs)) (sub_of s) (map_contains sub_of (filter q subs) s (filter_has q subs s c e)) (own_sub (sub_of s)))
