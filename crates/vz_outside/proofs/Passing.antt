-- Steps of which a gate was told, one after the other.
use Rattle.std.proofs.Common.{◌≡◌, ℕ, zero, suc, ◌+◌, ◌<◌, ◌≤◌, ◌⊎◌, inl, inr, ap, sym, subst, ◌∙◌, arith}
use Rattle.vz_outside.specs.Told.{Call, Before, After, IsTold, number_of, AreTold}

order : (a b : ℕ) → (a ≤ b) ⊎ (b < a)
order zero b = inl (omega arith)
order (suc a) zero = inr (omega arith)
order (suc a) (suc b) = elim (order a b) [ inl l ↦ inl (omega (arith, l)) | inr l ↦ inr (omega (arith, l)) ]

-- by another name of the same actor and number
pub told_as : (told : Call → Type 0) (a b m n : ℕ) → a ≡ b → m ≡ n → IsTold told a m → IsTold told b n
told_as told a b m n same equal t = subst (λ (x : ℕ). IsTold told x n) same (subst (λ (k : ℕ). IsTold told a k) equal t)

module _ (told : Call → Type 0) (actor : ℕ) where
  -- no step
  pub told_none : (a b : ℕ) → b ≤ a → AreTold told actor a b
  told_none a b none n first upto = absurd (omega (arith, none, first, upto))

  -- one step
  pub told_one : (a b number : ℕ) → b ≡ a + 1 → number ≡ number_of b → IsTold told actor number → AreTold told actor a b
  told_one a b number next is t n first upto =
      let same : n ≡ b = omega (arith, next, first, upto) in
      subst (λ (k : ℕ). IsTold told actor k) (is ∙ ap number_of (sym same)) t

  -- some steps, and then others
  pub told_then : (a b c : ℕ) → AreTold told actor a b → AreTold told actor b c → AreTold told actor a c
  told_then a b c s t n first upto = elim (order n b) [ inl low ↦ s n first low | inr high ↦ t n high upto ]

  -- by other names of the same counts
  pub told_of : (a b c d : ℕ) → a ≡ c → b ≡ d → AreTold told actor a b → AreTold told actor c d
  told_of a b c d from upto t n first last = t n (omega (arith, from, first)) (omega (arith, upto, last))
