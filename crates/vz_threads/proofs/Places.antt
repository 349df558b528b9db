-- Where things stand in lists that are put behind one another, and in what a filter keeps.
use Rattle.std.proofs.Common.{◌≡◌, ℕ, zero, suc, ◌+◌, ◌⊎◌, Bool, true, false, inl, inr, Option, Some, List, [], ◌∷◌, ◌++◌, length, filter, refl, ap, ◌∙◌, arith, cond, slice_get}
use Rattle.std.specs.List.{list_all}
use Rattle.std.proofs.{lemmas.List.Sums.length-filter, lemmas.List.Sums.count_by-le-length, lemmas.Bool.Decides.nat_tests}
use Rattle.vz_rules.proofs.Numbered.{rest_same}

-- a thing of two lists stands in the first, or so far into the second
pub at_append : {A : Type 0} (xs ys : List A) (n : ℕ) (x : A) → slice_get (xs ++ ys) n ≡ Some x
    → (slice_get xs n ≡ Some x) ⊎ ((k : ℕ) × (n ≡ length xs + k) × (slice_get ys k ≡ Some x))
at_append [] ys n x at = inr (n, omega arith, at)
at_append (z ∷ xs) ys zero x at = inl at
at_append (z ∷ xs) ys (suc n) x at =
    elim (at_append xs ys n x at) [ inl r ↦ inl r | inr r ↦ inr (r.0, omega (arith, r.1), r.2) ]

some_same : {A : Type 0} (a b : A) → ◌≡◌ {A = Option A} (Some a) (Some b) → a ≡ b
some_same a b e = cc

-- what stands before and behind a place
pub at_split : {A : Type 0} (xs : List A) (n : ℕ) (x : A) → slice_get xs n ≡ Some x → (before : List A) × (behind : List A) × (xs ≡ before ++ x ∷ behind)
at_split [] n x at = absurd (cc)
at_split (y ∷ xs) zero x at = ([], xs, ap (λ z. z ∷ xs) (some_same y x at))
at_split (y ∷ xs) (suc n) x at = let r = at_split xs n x at in (y ∷ r.0, r.1, ap (λ l. y ∷ l) r.2)

-- where a filter keeps as many as there are, all pass
pub all_pass : {A : Type 0} (t : A → Bool) (xs : List A) → length xs ≡ length (filter t xs) → list_all t xs ≡ true
all_pass t [] same = refl
all_pass t (x ∷ xs) same = grind (arith, nat_tests, all_pass t xs, length-filter, count_by-le-length)

-- what a filter keeps where all pass
pub filter_all : {A : Type 0} (t : A → Bool) (xs : List A) → list_all t xs ≡ true → filter t xs ≡ xs
filter_all t [] all = refl
filter_all t (x ∷ xs) all = grind (arith, nat_tests, filter_all t xs)

-- the one that a filter keeps last: behind it none passes
pub record EndsFiltered {A : Type 0} (t : A → Bool) (xs first : List A) (last : A) : Type 0 where
  pub before : List A
  pub behind : List A
  pub stands : xs ≡ before ++ last ∷ behind
  pub earlier : filter t before ≡ first
  pub none : filter t behind ≡ []

module _ {A : Type 0} (t : A → Bool) (xs : List A) (x last : A) where
  skip_one : (first : List A) → t x ≡ false → EndsFiltered t xs first last → EndsFiltered t (x ∷ xs) first last
  skip_one first is r = record {
    before = x ∷ r.before;
    behind = r.behind;
    stands = ap (λ l. x ∷ l) r.stands;
    earlier = ap (λ (b : Bool). cond b (x ∷ filter t r.before) (filter t r.before)) is ∙ r.earlier;
    none = r.none;
  }

  keep_one : (f : A) (first : List A) → t x ≡ true → x ≡ f → EndsFiltered t xs first last → EndsFiltered t (x ∷ xs) (f ∷ first) last
  keep_one f first is same r = record {
    before = x ∷ r.before;
    behind = r.behind;
    stands = ap (λ l. x ∷ l) r.stands;
    earlier = ap (λ (b : Bool). cond b (x ∷ filter t r.before) (filter t r.before)) is ∙ (ap (λ l. x ∷ l) r.earlier ∙ ap (λ y. y ∷ first) same);
    none = r.none;
  }

  keep_last : x ≡ last → filter t xs ≡ [] → EndsFiltered t (x ∷ xs) [] last
  keep_last same none = record { before = []; behind = xs; stands = ap (λ y. y ∷ xs) same; earlier = refl; none = none }

head_same : {A : Type 0} (a b : A) (as' bs : List A) → a ∷ as' ≡ b ∷ bs → a ≡ b
head_same a b as' bs e = cc

pub ends_filtered : {A : Type 0} (t : A → Bool) (xs first : List A) (last : A) → filter t xs ≡ first ++ last ∷ [] → EndsFiltered t xs first last
ends_filtered t [] [] last e = absurd (cc)
ends_filtered t [] (f ∷ first) last e = absurd (cc)
ends_filtered t (x ∷ xs) [] last e = grind (arith, nat_tests, keep_last, head_same, rest_same, skip_one, ends_filtered t xs [] last)
ends_filtered t (x ∷ xs) (f ∷ first) last e = grind (arith, nat_tests, keep_one, head_same, ends_filtered t xs first last, rest_same, skip_one, ends_filtered t xs (f ∷ first) last)
