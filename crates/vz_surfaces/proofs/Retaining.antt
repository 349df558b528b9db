-- What is retained of a list by a closure that changes neither itself nor the elements.
use Rattle.std.proofs.Common.{arith, ◌≡◌, Bool, List, [], ◌∷◌, filter}
use Rattle.std.proofs.lemmas.Bool.Decides.{nat_tests}
use Rattle.std.specs.List.Retain.{RetainsInTurn}

pub retained_same : {S X : Type 0} (R : S → X → Bool → S → X → Type 0) (test : X → Bool) (s : S) → ((x : X) (b : Bool) (t : S) (y : X) → R s x b t y → (b ≡ test x) × (t ≡ s) × (y ≡ x))
    → (xs ys : List X) → RetainsInTurn R s xs ys → ys ≡ filter test xs
retained_same R test s told [] ys k = k
retained_same R test s told (x ∷ xs) ys k = grind (arith, nat_tests, retained_same R test s told xs k.4)
