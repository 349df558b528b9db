-- What is read of counts after releases, and what goes back.
use Rattle.std.proofs.Common.{◌≡◌, ℕ, ◌+◌, ◌-◌, ◌<◌, Bool, true, false, ◌==◌, Option, Some, None, List, [], ◌∷◌, nat_lt, refl, ap, ◌∙◌, arith, cond}
use Rattle.std.proofs.lemmas.Bool.Decides.{nat_tests}
use Rattle.vz_returns.specs.Held.{Counted, Holding, counted_at, received_of, alive_of, is_rising, put_in, without, is_last, lent, shared, released}
use Rattle.vz_returns.specs.Released.{are_some}
use Rattle.vz_returns.proofs.Orders.{at_put, at_without, rising_put, rising_without}
pub use Rattle.std.proofs.lemmas.Bool.{and_parts as both, and_from as two_true, eqb-true as from_eqb, eq-eqb as to_eqb}

-- Reads

of_received : Option Counted → ℕ
of_received o = elim o [ Some c ↦ c.received | None ↦ 0 ]

of_alive : Option Counted → ℕ
of_alive o = elim o [ Some c ↦ c.alive | None ↦ 0 ]

received_either : (t : Bool) (o p : Option Counted) → of_received (cond t o p) ≡ cond t (of_received o) (of_received p)
received_either true o p = refl
received_either false o p = refl

alive_either : (t : Bool) (o p : Option Counted) → of_alive (cond t o p) ≡ cond t (of_alive o) (of_alive p)
alive_either true o p = refl
alive_either false o p = refl

pub received_put : (j : ℕ) (c : Counted) (list : List Counted) → received_of j (put_in c list) ≡ cond (c.id == j) c.received (received_of j list)
unfolding received_of of_received
received_put j c list = ap of_received (at_put j c list) ∙ received_either (c.id == j) (Some c) (counted_at j list)

pub alive_put : (j : ℕ) (c : Counted) (list : List Counted) → alive_of j (put_in c list) ≡ cond (c.id == j) c.alive (alive_of j list)
unfolding alive_of of_alive
alive_put j c list = ap of_alive (at_put j c list) ∙ alive_either (c.id == j) (Some c) (counted_at j list)

-- Some of each

pub some_put : (c : Counted) (list : List Counted) → 0 < c.received → 0 < c.alive → are_some list ≡ true → are_some (put_in c list) ≡ true
unfolding are_some put_in
some_put c [] h k s = grind (arith, nat_tests, two_true)
some_put c (x ∷ list) h k s = grind (arith, nat_tests, both, two_true, some_put c list h k)

pub some_without : (id : ℕ) (list : List Counted) → are_some list ≡ true → are_some (without id list) ≡ true
unfolding are_some without
some_without id [] s = refl
some_without id (x ∷ list) s = grind (arith, nat_tests, both, some_without id list, two_true)

-- where some are received some are alive, and the other way round
pub some_of_both : (j : ℕ) (list : List Counted) → are_some list ≡ true → nat_lt 0 (received_of j list) ≡ nat_lt 0 (alive_of j list)
unfolding are_some received_of alive_of of_received of_alive
some_of_both j [] s = refl
some_of_both j (x ∷ list) s = grind (arith, nat_tests, both, both (nat_lt 0 x.received) (nat_lt 0 x.alive), some_of_both j list)

-- One release

at_own : {A : Type 0} (f : ℕ → A) (x : A) (id j : ℕ) → cond (id == j) (f id) x ≡ cond (id == j) (f j) x
at_own f x id j = grind (arith, nat_tests, from_eqb id j)

pub alive_released : (j id : ℕ) (h : Holding) → alive_of j (released id h).counted ≡ cond (id == j) (alive_of j h.counted - 1) (alive_of j h.counted)
unfolding alive_of of_alive
alive_released j id h = grind (arith, nat_tests, at_without, alive_either, from_eqb (alive_of id h.counted) 1, at_own, alive_put j)

pub received_released : (j id : ℕ) (h : Holding) → received_of j (released id h).counted ≡ cond (id == j) (cond (is_last j h) 0 (received_of j h.counted)) (received_of j h.counted)
unfolding received_of of_received
received_released j id h = grind (arith, nat_tests, at_without, received_either, at_own, received_put j)

pub rising_released : (id : ℕ) (h : Holding) → is_rising h.counted ≡ true → is_rising (released id h).counted ≡ true
rising_released id h r = grind (arith, nat_tests, rising_without id h.counted r, rising_put)

pub some_released : (id : ℕ) (h : Holding) → 0 < alive_of id h.counted → are_some h.counted ≡ true → are_some (released id h).counted ≡ true
some_released id h k s = grind (arith, nat_tests, some_of_both id h.counted s, some_without id h.counted s, some_put)

-- One lent, and one held

pub received_lent : (j id : ℕ) (h : Holding) → received_of j (lent id h).counted ≡ cond (id == j) (received_of j h.counted + 1) (received_of j h.counted)
received_lent j id h = received_put j _ h.counted ∙ at_own (λ n. received_of n h.counted + 1) (received_of j h.counted) id j

pub alive_lent : (j id : ℕ) (h : Holding) → alive_of j (lent id h).counted ≡ cond (id == j) (alive_of j h.counted + 1) (alive_of j h.counted)
alive_lent j id h = alive_put j _ h.counted ∙ at_own (λ n. alive_of n h.counted + 1) (alive_of j h.counted) id j

pub some_lent : (id : ℕ) (h : Holding) → are_some h.counted ≡ true → are_some (lent id h).counted ≡ true
some_lent id h s = some_put _ h.counted (omega arith) (omega arith) s

either_same : (t : Bool) (x : ℕ) → cond t x x ≡ x
either_same true x = refl
either_same false x = refl

pub received_shared : (j id : ℕ) (h : Holding) → received_of j (shared id h).counted ≡ received_of j h.counted
received_shared j id h = received_put j _ h.counted ∙ at_own (λ n. received_of n h.counted) (received_of j h.counted) id j ∙ either_same (id == j) (received_of j h.counted)

pub alive_shared : (j id : ℕ) (h : Holding) → alive_of j (shared id h).counted ≡ cond (id == j) (alive_of j h.counted + 1) (alive_of j h.counted)
alive_shared j id h = alive_put j _ h.counted ∙ at_own (λ n. alive_of n h.counted + 1) (alive_of j h.counted) id j

pub some_shared : (id : ℕ) (h : Holding) → 0 < alive_of id h.counted → are_some h.counted ≡ true → are_some (shared id h).counted ≡ true
some_shared id h k s = grind (arith, nat_tests, some_of_both id h.counted s, some_put)
