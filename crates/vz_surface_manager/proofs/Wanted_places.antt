-- The places that submissions want which wait.
use Rattle.std.proofs.Common.{◌≡◌, ℕ, zero, suc, slice_get, ◌+◌, ◌≤◌, Bool, true, false, Option, Some, None, List, [], ◌∷◌, length, map, filter, find, refl, ap, arith, cond, Contains, sum_by, count_by}
use Rattle.std.proofs.{lemmas.List.Sums.sum_by-cons, lemmas.Bool.Decides.nat_tests}
use Rattle.vz_rules.specs.World.{Submission, is_waiting}
use Rattle.vz_rules.proofs.{Members.contains_here, Members.contains_there, Members.contains_at, Counts.count_cons}
use Rattle.vz_surface_manager.specs.Live.{wants}

-- a sum over a list that is changed: what changed counts nothing afterwards
pub sum_less : {A : Type 0} (n : A → ℕ) (f : A → A) (p : A → Bool) (xs : List A) → ((x : A) → Contains xs x → p x ≡ true → n (f x) ≡ 0)
    → ((x : A) → Contains xs x → p x ≡ false → n (f x) ≡ n x) → sum_by n (map f xs) + sum_by n (filter p xs) ≡ sum_by n xs
sum_less n f p [] goes stays = refl
sum_less n f p (x ∷ xs) goes stays =
    by (p x) refl (sum_less n f p xs (λ y c. goes y (contains_there x y xs c)) (λ y c. stays y (contains_there x y xs c)))
  where
    by : (t : Bool) → p x ≡ t → sum_by n (map f xs) + sum_by n (filter p xs) ≡ sum_by n xs
        → sum_by n (map f (x ∷ xs)) + sum_by n (cond t (x ∷ filter p xs) (filter p xs)) ≡ sum_by n (x ∷ xs)
    by true e rest =
        omega (arith, sum_by-cons n (f x) (map f xs), sum_by-cons n x (filter p xs), sum_by-cons n x xs, goes x (contains_here x xs) e, rest)
    by false e rest =
        omega (arith, sum_by-cons n (f x) (map f xs), sum_by-cons n x xs, stays x (contains_here x xs) e, rest)

-- one that does not wait wants nothing
pub wants_not : (t : Submission) → is_waiting t ≡ false → wants t ≡ 0
wants_not t e = ap {B = ℕ} (λ (b : Bool). cond b (length t.submitted.frame.metadata.references + 1) 0) e

-- what one that is found wants
abbrev pub wanted_of : Option Submission → ℕ
wanted_of o = elim o [ Some s ↦ wants s | None ↦ 0 ]

-- where none passes they want nothing
none_sum : (p : Submission → Bool) (xs : List Submission) → count_by p xs ≡ 0 → sum_by wants (filter p xs) ≡ 0
none_sum p [] e = refl
none_sum p (x ∷ xs) e = grind (arith, nat_tests, none_sum p xs, count_cons p x xs)

-- where one at most passes, its sum is that of the one that is found
pub sum_one : (p : Submission → Bool) (xs : List Submission) → count_by p xs ≤ 1 → sum_by wants (filter p xs) ≡ wanted_of (find p xs)
sum_one p [] few = refl
sum_one p (x ∷ xs) few = grind (arith, nat_tests, sum_one p xs, sum_by-cons wants x (filter p xs), none_sum p xs, count_cons p x xs)

some_same : {a b : Submission} → Some a ≡ Some b → a ≡ b
some_same f = cc

-- one of them wants no more than all
wants_at : (xs : List Submission) (n : ℕ) (s : Submission) → slice_get xs n ≡ Some s → wants s ≤ sum_by wants xs
wants_at [] n s e = absurd (cc)
wants_at (x ∷ xs) zero s e = omega (arith, sum_by-cons wants x xs, ap wants (some_same e))
wants_at (x ∷ xs) (suc n) s e = omega (arith, sum_by-cons wants x xs, wants_at xs n s e)

pub one_wants : (xs : List Submission) (s : Submission) → Contains xs s → wants s ≤ sum_by wants xs
one_wants xs s c = let at = contains_at xs s c in wants_at xs at.0 s at.1
