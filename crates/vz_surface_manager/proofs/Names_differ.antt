-- Submissions and surfaces of a state that are told apart.
use Rattle.std.proofs.Common.{◌≡◌, ℕ, zero, suc, Bool, true, false, inl, inr, Some, List, [], ◌∷◌, ◌++◌, filter, refl, cond, slice_get}
use Rattle.std.proofs.Common.{Contains}
use Rattle.std.proofs.lemmas.Bool.{false_from_ne_true}
use Rattle.vz_ids.specs.Ids.{same_sub, same_surface}
use Rattle.vz_rules.specs.{World.World, World.Submission, World.Surface, World.sub_of, Settle.is_ready, Settle.ready, Kept.KeepsAlways}
use Rattle.vz_rules.proofs.Members.{contains_here, contains_there, contains_at, filter_at, append_contains}
use Rattle.vz_rules.proofs.Kept_facts.{subs_apart, surfaces_apart}

no_less : (n m : ℕ) → suc n ≡ suc m → n ≡ m
no_less n m e = cc

not_first : (n : ℕ) → suc n ≡ zero → ⊥
not_first n e = cc

module _ {A : Type 0} (same : A → A → Bool) where
  -- none is the same as one behind it
  abbrev pub DifferBy : List A → Type 0
  DifferBy [] = Unit {0}
  DifferBy (x ∷ xs) = ((y : A) → Contains xs y → same y x ≡ false) × DifferBy xs

  -- at two places there are two
  abbrev OnePlace : List A → Type 0
  OnePlace xs = (n m : ℕ) (x y : A) → slice_get xs n ≡ Some x → slice_get xs m ≡ Some y → same x y ≡ true → n ≡ m

  differ_filtered : (p : A → Bool) (xs : List A) → OnePlace xs → DifferBy (filter p xs)
  differ_filtered p [] h = tt
  differ_filtered p (x ∷ xs) h =
      let rest = differ_filtered p xs (λ n m s t a b e. no_less n m (h (suc n) (suc m) s t a b e)) in
      elim (p x) as (λ (t : Bool). DifferBy (cond t (x ∷ filter p xs) (filter p xs))) [
        | true ↦ (
          λ t c. false_from_ne_true (same t x) (λ e.
              let m = contains_at xs t (filter_at p xs t c).0 in
              not_first m.0 (h (suc m.0) zero t x m.1 refl e)),
          rest,
        )
        | false ↦ rest
      ]

  pub differ_joined : (xs ys : List A) → DifferBy xs → DifferBy ys → ((x y : A) → Contains xs x → Contains ys y → same y x ≡ false)
      → DifferBy (xs ++ ys)
  differ_joined [] ys h k across = k
  differ_joined (x ∷ xs) ys h k across = (
    λ y c. elim (append_contains xs ys y c) [ inl m ↦ h.0 y m | inr m ↦ across x y (contains_here x xs) m ],
    differ_joined xs ys h.1 k (λ z y c d. across z y (contains_there x z xs c) d),
  )

-- each has another name than those before it
abbrev pub Differ : List Submission → Type 0
Differ = DifferBy (λ t s. same_sub (sub_of t) (sub_of s))

-- those that are ready
pub ready_differ : (w : World) → KeepsAlways w → Differ (ready w)
unfolding ready
ready_differ w h =
    differ_filtered (λ t s. same_sub (sub_of t) (sub_of s)) (is_ready w) w.subs (λ n m s t a b e. subs_apart w n m s t h a b e)

-- each has another id than those before it
abbrev pub AreApart : List Surface → Type 0
AreApart = DifferBy (λ c d. same_surface c.id d.id)

-- some of those that were created
pub created_apart : (w : World) (p : Surface → Bool) → KeepsAlways w → AreApart (filter p w.surfaces)
created_apart w p h = differ_filtered (λ c d. same_surface c.id d.id) p w.surfaces (λ n m c d a b e. surfaces_apart w n m c d h a b e)
