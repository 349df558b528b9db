-- The events of so many rounds.
use Rattle.std.proofs.Common.{◌≡◌, ℕ, zero, suc, ◌+◌, List, ◌++◌, refl, sym, ap, ◌∙◌, append_assoc, arith}
use Rattle.vz_rules.specs.declared.entry.Event.{Event}
use Rattle.viz_run.specs.Demo.{round, rounds, four}

-- a round behind others is one before them
round_behind : (n : ℕ) → rounds n ++ round ≡ round ++ rounds n
unfolding rounds
round_behind zero = refl
round_behind (suc n) = append_assoc round (rounds n) round ∙ ap (λ (xs : List Event). round ++ xs) (round_behind n)

-- one round more
pub rounds_more : (n : ℕ) → rounds (n + 1) ≡ rounds n ++ round
unfolding rounds
rounds_more n = ap {B = List Event} rounds (the_next n) ∙ sym (round_behind n)
  where
    the_next : (n : ℕ) → n + 1 ≡ suc n
    the_next n = omega arith

-- the page's messages and one round more
pub events_more : (n : ℕ) (before after : List Event) → before ≡ four 1 ++ rounds n → after ≡ before ++ round → after ≡ four 1 ++ rounds (n + 1)
events_more n before after is more =
    more ∙ ap (λ (xs : List Event). xs ++ round) is ∙ append_assoc (four 1) (rounds n) round
    ∙ ap (λ (xs : List Event). four 1 ++ xs) (sym (rounds_more n))
