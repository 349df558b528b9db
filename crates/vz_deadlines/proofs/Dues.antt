-- Those that are due, as a list is gone through.
use Rattle.std.proofs.Common.{◌≡◌, ℕ, ◌≤◌, ◌<◌, Bool, true, false, not, ◌&&◌, nat_le, List, [], ◌∷◌, ◌++◌, map, filter, refl, ap, sym, ◌∙◌, arith, cond}
use Rattle.std.specs.List.{list_all}
use Rattle.std.proofs.lemmas.Bool.Decides.{nat_tests}
use Rattle.vz_ids.specs.declared.Sub.{Sub}
use Rattle.vz_rules.specs.World.{World, Submission, is_waiting, sub_of, has_sub}
use Rattle.vz_rules.specs.Settle.{has_come, is_ready, ready, is_met}
use Rattle.vz_deadlines.specs.declared.due.Due.{Due}
use Rattle.vz_deadlines.specs.Timing.{waits, without, due_at, left_at, due_of, waiting_in}

-- first those, then these
pub due_append : (tick : ℕ) (xs ys : List Due) → due_at tick (xs ++ ys) ≡ due_at tick xs ++ due_at tick ys
unfolding due_at
due_append tick [] ys = refl
due_append tick (x ∷ xs) ys = grind (arith, nat_tests, due_append tick xs ys)

-- one that is due, and one that is not
pub one_due : (tick : ℕ) (x : Due) → nat_le x.tick tick ≡ true → due_at tick (x ∷ []) ≡ x.sub ∷ []
unfolding due_at
one_due tick x e = ap (λ t. map (λ (d : Due). d.sub) (cond t (x ∷ []) [])) e

pub one_later : (tick : ℕ) (x : Due) → nat_le x.tick tick ≡ false → due_at tick (x ∷ []) ≡ []
unfolding due_at
one_later tick x e = ap (λ t. map (λ (d : Due). d.sub) (cond t (x ∷ []) [])) e

-- where none is due before a tick, none is due then
pub none_due : (tick soonest : ℕ) (xs : List Due) → tick < soonest → list_all (λ d. nat_le soonest d.tick) xs ≡ true → due_at tick xs ≡ []
unfolding due_at
none_due tick soonest [] before all = refl
none_due tick soonest (x ∷ xs) before all = grind (arith, nat_tests, none_due tick soonest xs before)

-- a smaller bound is a bound too
pub all_later : (less more : ℕ) (xs : List Due) → less ≤ more → list_all (λ d. nat_le more d.tick) xs ≡ true → list_all (λ d. nat_le less d.tick) xs ≡ true
all_later less more [] below all = refl
all_later less more (x ∷ xs) below all = grind (arith, nat_tests, below, all, all_later less more xs below)

-- The submissions of a state

due_subs : (tick : ℕ) (subs : List Submission) → due_at tick (map due_of (filter is_waiting subs)) ≡ map sub_of (filter (λ s. is_waiting s && nat_le s.due tick) subs)
unfolding due_at
due_subs tick [] = refl
due_subs tick (s ∷ subs) = grind (arith, nat_tests, due_subs tick subs)

left_subs : (tick : ℕ) (subs : List Submission) → left_at tick (map due_of (filter is_waiting subs)) ≡ map due_of (filter (λ s. is_waiting s && not (nat_le s.due tick)) subs)
unfolding left_at
left_subs tick [] = refl
left_subs tick (s ∷ subs) = grind (arith, nat_tests, left_subs tick subs)

pub due_in : (w : World) (tick : ℕ) → due_at tick (waiting_in w) ≡ map sub_of (filter (λ s. is_waiting s && nat_le s.due tick) w.subs)
unfolding waiting_in
due_in w tick = due_subs tick w.subs

pub left_in : (w : World) (tick : ℕ) → left_at tick (waiting_in w) ≡ map due_of (filter (λ s. is_waiting s && not (nat_le s.due tick)) w.subs)
unfolding waiting_in
left_in w tick = left_subs tick w.subs

-- more pass a weaker test
weaker : (p q : Submission → Bool) (subs : List Submission) (sub : Sub) → ((s : Submission) → p s ≡ true → q s ≡ true) → has_sub (map sub_of (filter p subs)) sub ≡ true → has_sub (map sub_of (filter q subs)) sub ≡ true
weaker p q [] sub h e = e
weaker p q (s ∷ subs) sub h e = grind (arith, nat_tests, weaker p q subs sub h)

overdue : (w : World) (s : Submission) → (is_waiting s && nat_le s.due w.tick) ≡ true → is_ready w s ≡ true
unfolding is_ready has_come
overdue w s e = grind (arith, nat_tests)

pub due_ready : (w : World) (sub : Sub) → has_sub (due_at w.tick (waiting_in w)) sub ≡ true → has_sub (map sub_of (ready w)) sub ≡ true
unfolding ready
due_ready w sub e = weaker (λ s. is_waiting s && nat_le s.due w.tick) (is_ready w) w.subs sub (overdue w) (sym (ap (λ l. has_sub l sub) (due_in w w.tick)) ∙ e)

-- A new tick

ready_subs : (w : World) (n : ℕ) (subs : List Submission) → filter (is_ready w) subs ≡ [] → map sub_of (filter (is_ready (record w { tick = n })) subs) ≡ map sub_of (filter (λ s. is_waiting s && nat_le s.due n) subs)
unfolding is_ready has_come is_met
ready_subs w n [] e = refl
ready_subs w n (s ∷ subs) e = grind (arith, nat_tests, ready_subs w n subs)

pub ready_at : (w : World) (n : ℕ) → ready w ≡ [] → map sub_of (ready (record w { tick = n })) ≡ due_at n (waiting_in w)
unfolding ready
ready_at w n e = ready_subs w n w.subs e ∙ sym (due_in w n)

-- one that is taken out waits no longer
pub cleared_waits : (s : Sub) (list : List Due) → waits (without s list) s ≡ false
unfolding waits without
cleared_waits s [] = refl
cleared_waits s (d ∷ list) = grind (arith, nat_tests, cleared_waits s list)
