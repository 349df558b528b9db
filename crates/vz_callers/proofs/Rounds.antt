-- The rounds of the display.
use Rattle.std.proofs.Common.{◌≡◌, ℕ, zero, suc, ◌+◌, List, ◌∷◌, ◌++◌, refl, ap, arith}
use Rattle.vz_rules.specs.declared.entry.Event.{Event}
use Rattle.vz_rules.specs.declared.entry.Event.TheVariants as event
use Rattle.vz_callers.specs.Turns.{round, rounds}
use Rattle.std.proofs.{lemmas.Bool.Decides.nat_tests, lemmas.Grind.common_steps}

round_more : (n : ℕ) → rounds n ++ round ≡ rounds (suc n)
round_more zero = refl
round_more (suc n) = ap (λ (l : List Event). event.Begin ∷ event.Draw ∷ event.Done ∷ l) (round_more n)

next_is : (n : ℕ) → n + 1 ≡ suc n
next_is n = omega arith

-- one round more
pub more_rounds : (es a b : List Event) (n : ℕ) → a ≡ es ++ rounds n → b ≡ a ++ round → b ≡ es ++ rounds (n + 1)
more_rounds es a b n first more = grind (arith, nat_tests, common_steps, round_more n, next_is n)
