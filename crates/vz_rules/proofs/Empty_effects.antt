-- Effects of which each list is empty.
use Rattle.std.proofs.Common.{◌≡◌, ◌==◌, ◌&&◌, Bool, true, List, [], ◌∷◌, length, refl, sym, ◌∙◌, eqb-true, arith}
use Rattle.vz_rules.specs.declared.entry.Effects.{Effects}
use Rattle.vz_rules.specs.Kept.{no_effects}

-- four tests that all hold
all_four : (a b c d : Bool) → ((a && b) && c) && d ≡ true → (a ≡ true) × (b ≡ true) × (c ≡ true) × (d ≡ true)
all_four true true true true e = (refl, refl, refl, refl)
all_four _ _ _ _ e = absurd (cc)

-- a list without a value
empty : {A : Type 0} (xs : List A) → (length xs == 0) ≡ true → xs ≡ []
empty [] e = refl
empty (x ∷ xs) e = let h : length (x ∷ xs) ≡ 0 = eqb-true _ _ e in absurd (omega (arith, h))

-- nothing follows if each list is empty
pub nothing_is : (e : Effects) (a b c d : Bool) → a ≡ (length e.activated == 0) → b ≡ (length e.destroyed == 0)
    → c ≡ (length e.returned == 0) → d ≡ (length e.fed == 0) → ((a && b) && c) && d ≡ true → e ≡ no_effects
nothing_is e a b c d p q r s all =
    let none = all_four a b c d all in
    let activated = empty e.activated (sym p ∙ none.0) in
    let destroyed = empty e.destroyed (sym q ∙ none.1) in
    let returned = empty e.returned (sym r ∙ none.2) in
    let fed = empty e.fed (sym s ∙ none.3) in
    λ i. record { activated = activated i; destroyed = destroyed i; returned = returned i; fed = fed i }
