-- Small facts of tests and lists.
use Rattle.std.proofs.Common.{◌≡◌, ℕ, zero, suc, ◌+◌, Bool, true, false, ◌&&◌, ◌||◌, ◌==◌, Option, Some, None, List, [], ◌∷◌, map, length, refl, ap, sym, ◌∙◌, cond, arith, slice_get, is_some}
use Rattle.std.specs.List.{list_all}
use Rattle.std.proofs.lemmas.Bool.Decides.{nat_tests}
pub use Rattle.std.proofs.lemmas.Bool.{false_from_ne_true as false_at}

-- what reads the same of both is read of a choice
pub same_when : {A B : Type 0} (p : A → B) (t : Bool) (x y : A) → p x ≡ p y → p (cond t x y) ≡ p y
same_when p true x y e = e
same_when p false x y e = refl

-- and of a choice of three
pub same_either : {A B : Type 0} (p : A → B) (t u : Bool) (x y z : A) → p x ≡ p z → p y ≡ p z → p (cond t x (cond u y z)) ≡ p z
same_either p true u x y z e f = e
same_either p false u x y z e f = same_when p u y z f

pub or_false : (a : Bool) → (a || false) ≡ a
or_false true = refl
or_false false = refl

pub or_true : (a : Bool) → (a || true) ≡ true
or_true true = refl
or_true false = refl

pub or_assoc : (a b c : Bool) → ((a || b) || c) ≡ (a || (b || c))
or_assoc true b c = refl
or_assoc false b c = refl

pub or_pairs : (a b c d : Bool) → ((a || b) || (c || d)) ≡ ((a || c) || (b || d))
or_pairs a b c d = by a b c
  where
    by : (a b c : Bool) → ((a || b) || (c || d)) ≡ ((a || c) || (b || d))
    by true b c = refl
    by false true c = sym (or_true c)
    by false false c = refl

pub and_false : (a : Bool) → (a && false) ≡ false
and_false true = refl
and_false false = refl

pub and_true : (a : Bool) → (a && true) ≡ a
and_true true = refl
and_true false = refl

pub plus_none : (n : ℕ) → n ≡ n + 0
plus_none n = omega arith

pub none_plus : (n : ℕ) → n ≡ 0 + n
none_plus n = omega arith

pub flip : (a b : ℕ) → (a == b) ≡ (b == a)
flip a b = grind (arith, nat_tests)

pub and_counted : (t b : Bool) → ◌≡◌ {A = ℕ} (cond (t && b) 1 0) (cond t (cond b 1 0) 0)
and_counted true b = refl
and_counted false b = refl

pub all_same : {A : Type 0} (t u : A → Bool) (xs : List A) → ((x : A) → t x ≡ u x) → list_all t xs ≡ list_all u xs
all_same t u [] same = refl
all_same t u (x ∷ xs) same = ap (λ b. b && list_all t xs) (same x) ∙ ap (λ b. u x && b) (all_same t u xs same)

pub length_map : {A B : Type 0} (f : A → B) (xs : List A) → length (map f xs) ≡ length xs
length_map f [] = refl
length_map f (x ∷ xs) = ap suc (length_map f xs)

pub map_at : {A B : Type 0} (f : A → B) (xs : List A) (n : ℕ) (x : A) → slice_get xs n ≡ Some x → slice_get (map f xs) n ≡ Some (f x)
map_at f [] n x h = absurd (cc)
map_at f (y ∷ xs) zero x h = let s : y ≡ x = cc in ap (λ z. Some (f z)) s
map_at f (y ∷ xs) (suc n) x h = map_at f xs n x h

pub some_of : {A : Type 0} (o : Option A) → is_some o ≡ true → (x : A) × (o ≡ Some x)
some_of None h = absurd (cc)
some_of (Some x) h = (x, refl)

pub uncounted : (t : Bool) → t ≡ false → 0 ≡ 0 + cond t 1 0
uncounted true e = absurd (cc)
uncounted false e = omega arith
