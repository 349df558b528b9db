-- What is read after several releases, and the returns that are answered.
use Rattle.std.proofs.Common.{◌≡◌, ℕ, ◌+◌, ◌-◌, ◌≤◌, ◌<◌, Bool, true, false, ◌==◌, ◌&&◌, Option, Some, None, List, [], ◌∷◌, ◌++◌, map, nat_lt, nat_le, option_to_list, refl, ap, sym, ◌∙◌, arith, cond}
use Rattle.std.specs.List.{list_all}
use Rattle.std.proofs.{lemmas.List.append-nil, lemmas.List.append_assoc, lemmas.Bool.Decides.nat_tests}
use Rattle.vz_rules.specs.declared.entry.Returned.{Returned}
use Rattle.vz_rules.proofs.Counts.{count_cons}
use Rattle.vz_returns.specs.Held.{Counted, Holding, counted_at, received_of, alive_of, is_rising, is_last, return_at, released}
use Rattle.vz_returns.specs.Released.{times, is_sorted, are_some, release_all, returns_in}
use Rattle.vz_returns.proofs.Releases.{both, two_true, from_eqb, to_eqb, alive_released, received_released, rising_released, some_released}

-- so many of each are alive
abbrev pub Suffice : List ℕ → Holding → Type 0
Suffice ids h = (j : ℕ) → times j ids ≤ alive_of j h.counted

none_more : (n : ℕ) → 0 + n ≡ n
none_more n = omega arith

times_cons : (j id : ℕ) (ids : List ℕ) → times j (id ∷ ids) ≡ cond (id == j) 1 0 + times j ids
times_cons j id ids = count_cons (λ n. n == j) id ids

times_own : (id : ℕ) (ids : List ℕ) → times id (id ∷ ids) ≡ 1 + times id ids
times_own id ids = times_cons id id ids ∙ (let own : (id == id) ≡ true = to_eqb id id refl in ap (λ (t : Bool). cond t 1 0 + times id ids) own)

times_other : (j id : ℕ) (ids : List ℕ) → (id == j) ≡ false → times j (id ∷ ids) ≡ times j ids
times_other j id ids e = times_cons j id ids ∙ (ap (λ (t : Bool). cond t 1 0 + times j ids) e ∙ none_more (times j ids))

pub first_alive : (id : ℕ) (ids : List ℕ) (h : Holding) → Suffice (id ∷ ids) h → 0 < alive_of id h.counted
first_alive id ids h s = omega (arith, s id, times_own id ids)

alive_own : (j id : ℕ) (h : Holding) → (id == j) ≡ true → alive_of j (released id h).counted ≡ alive_of j h.counted - 1
alive_own j id h e = alive_released j id h ∙ ap (λ (t : Bool). cond t (alive_of j h.counted - 1) (alive_of j h.counted)) e

alive_other : (j id : ℕ) (h : Holding) → (id == j) ≡ false → alive_of j (released id h).counted ≡ alive_of j h.counted
alive_other j id h e = alive_released j id h ∙ ap (λ (t : Bool). cond t (alive_of j h.counted - 1) (alive_of j h.counted)) e

times_same : (j id : ℕ) (ids : List ℕ) → (id == j) ≡ true → times j (id ∷ ids) ≡ 1 + times j ids
times_same j id ids e = times_cons j id ids ∙ ap (λ (t : Bool). cond t 1 0 + times j ids) e

pub rest_suffices : (id : ℕ) (ids : List ℕ) (h : Holding) → Suffice (id ∷ ids) h → Suffice ids (released id h)
rest_suffices id ids h s j = grind (arith, nat_tests, times_same j id ids, alive_own j id h, times_other j id ids, alive_other j id h)

pub alive_all : (j : ℕ) (ids : List ℕ) (h : Holding) → Suffice ids h → alive_of j (release_all ids h).counted ≡ alive_of j h.counted - times j ids
alive_all j [] h s = omega arith
alive_all j (id ∷ ids) h s = by (id == j) refl (alive_all j ids (released id h) (rest_suffices id ids h s))
  where
    by : (t : Bool) → (id == j) ≡ t → alive_of j (release_all ids (released id h)).counted ≡ alive_of j (released id h).counted - times j ids → alive_of j (release_all ids (released id h)).counted ≡ alive_of j h.counted - times j (id ∷ ids)
    by true e rest = omega (arith, rest, times_same j id ids e, alive_own j id h e)
    by false e rest = omega (arith, rest, times_other j id ids e, alive_other j id h e)

-- all of a resource go back: some are released, and no other is alive
abbrev pub all_back : ℕ → List ℕ → Holding → Bool
all_back j ids h = nat_lt 0 (times j ids) && (alive_of j h.counted == times j ids)

-- the numbers of a resource that is released now: so many alive, so many times released after
last_one : (a t : ℕ) → 0 < a → 1 + t ≤ a → (a == 1) ≡ true → (nat_lt 0 t && (a - 1 == t)) ≡ false
last_one a t h k e = grind (arith, nat_tests, h, k, e)

last_of_all : (a t : ℕ) → 0 < a → 1 + t ≤ a → (a == 1) ≡ true → (nat_lt 0 (1 + t) && (a == 1 + t)) ≡ true
last_of_all a t h k e = grind (arith, nat_tests, h, k, e)

one_of_more : (a t : ℕ) → 0 < a → 1 + t ≤ a → (a == 1) ≡ false → (nat_lt 0 t && (a - 1 == t)) ≡ (nat_lt 0 (1 + t) && (a == 1 + t))
one_of_more a t h k e = grind (arith, nat_tests, two_true (nat_lt 0 t), two_true)

back_of : (j : ℕ) (ids : List ℕ) (h : Holding) (a t : ℕ) → alive_of j h.counted ≡ a → times j ids ≡ t → all_back j ids h ≡ (nat_lt 0 t && (a == t))
back_of j ids h a t e f = λ i. nat_lt 0 (f i) && (e i == f i)

pub received_all : (j : ℕ) (ids : List ℕ) (h : Holding) → Suffice ids h → received_of j (release_all ids h).counted ≡ cond (all_back j ids h) 0 (received_of j h.counted)
received_all j [] h s = refl
received_all j (id ∷ ids) h s =
    received_all j ids (released id h) (rest_suffices id ids h s)
    ∙ by (id == j) refl
  where
    received : (t : Bool) → (id == j) ≡ t → received_of j (released id h).counted ≡ cond t (cond (is_last j h) 0 (received_of j h.counted)) (received_of j h.counted)
    received t e = received_released j id h ∙ ap (λ (b : Bool). cond b (cond (is_last j h) 0 (received_of j h.counted)) (received_of j h.counted)) e

    by_last : (l : Bool) → is_last j h ≡ l → (id == j) ≡ true → 0 < alive_of j h.counted → 1 + times j ids ≤ alive_of j h.counted
        → cond (nat_lt 0 (times j ids) && (alive_of j h.counted - 1 == times j ids)) 0 (cond l 0 (received_of j h.counted)) ≡ cond (nat_lt 0 (1 + times j ids) && (alive_of j h.counted == 1 + times j ids)) 0 (received_of j h.counted)
    by_last true l e p q =
        ap (λ (b : Bool). cond b 0 0) (last_one (alive_of j h.counted) (times j ids) p q l)
        ∙ sym (ap (λ (b : Bool). cond b 0 (received_of j h.counted)) (last_of_all (alive_of j h.counted) (times j ids) p q l))
    by_last false l e p q = ap (λ (b : Bool). cond b 0 (received_of j h.counted)) (one_of_more (alive_of j h.counted) (times j ids) p q l)

    by : (t : Bool) → (id == j) ≡ t → cond (all_back j ids (released id h)) 0 (received_of j (released id h).counted) ≡ cond (all_back j (id ∷ ids) h) 0 (received_of j h.counted)
    by true e =
        (λ i. cond (back_of j ids (released id h) _ _ (alive_own j id h e) refl i) 0 (received true e i))
        ∙ by_last (is_last j h) refl e (omega (arith, s j, times_same j id ids e)) (omega (arith, s j, times_same j id ids e))
        ∙ sym (ap (λ (b : Bool). cond b 0 (received_of j h.counted)) (back_of j (id ∷ ids) h _ _ refl (times_same j id ids e)))
    by false e =
        (λ i. cond (back_of j ids (released id h) _ _ (alive_other j id h e) refl i) 0 (received false e i))
        ∙ sym (ap (λ (b : Bool). cond b 0 (received_of j h.counted)) (back_of j (id ∷ ids) h _ _ refl (times_other j id ids e)))

-- Returns, seen as counts: the client stands for those alive

abbrev pub as_counted : Returned → Counted
as_counted r = record { id = r.id; received = r.count; alive = r.client }

abbrev pub as_returned : Counted → Returned
as_returned c = record { client = c.alive; id = c.id; count = c.received }

back_again : (rs : List Returned) → map as_returned (map as_counted rs) ≡ rs
back_again [] = refl
back_again (r ∷ rs) = ap (λ l. r ∷ l) (back_again rs)

pub same_returns : (rs ss : List Returned) → map as_counted rs ≡ map as_counted ss → rs ≡ ss
same_returns rs ss e = sym (back_again rs) ∙ ap (map as_returned) e ∙ back_again ss

-- what is found among those that are answered
found_first : (j : ℕ) (t : Bool) (r : Returned) (rs : List Returned) → counted_at j (map as_counted (option_to_list (cond t (Some r) None) ++ rs)) ≡ cond (t && (r.id == j)) (Some (as_counted r)) (counted_at j (map as_counted rs))
found_first j true r rs = refl
found_first j false r rs = refl

pub found_back : (j : ℕ) (ids : List ℕ) (h : Holding) → Suffice ids h
    → counted_at j (map as_counted (returns_in ids h)) ≡ cond (all_back j ids h) (Some (record { id = j; received = received_of j h.counted; alive = h.client })) None
found_back j [] h s = refl
found_back j (id ∷ ids) h s =
    found_first j (is_last id h) (record { client = h.client; id = id; count = received_of id h.counted }) (returns_in ids (released id h))
    ∙ ap (λ o. cond (is_last id h && (id == j)) (Some (record { id = id; received = received_of id h.counted; alive = h.client })) o) (found_back j ids (released id h) (rest_suffices id ids h s))
    ∙ by (id == j) refl
  where
    one : ℕ → ℕ → Option Counted
    one n r = Some (record { id = n; received = r; alive = h.client })

    no_last : (l : Bool) (x y : Option Counted) → cond (l && false) x y ≡ y
    no_last true x y = refl
    no_last false x y = refl

    by_last : (l : Bool) → is_last j h ≡ l → (id == j) ≡ true → 0 < alive_of j h.counted → 1 + times j ids ≤ alive_of j h.counted
        → cond (l && true) (one j (received_of j h.counted)) (cond (nat_lt 0 (times j ids) && (alive_of j h.counted - 1 == times j ids)) (one j (cond l 0 (received_of j h.counted))) None)
        ≡ cond (nat_lt 0 (1 + times j ids) && (alive_of j h.counted == 1 + times j ids)) (one j (received_of j h.counted)) None
    by_last true l e p q = sym (ap (λ (b : Bool). cond b (one j (received_of j h.counted)) None) (last_of_all (alive_of j h.counted) (times j ids) p q l))
    by_last false l e p q = ap (λ (b : Bool). cond b (one j (received_of j h.counted)) None) (one_of_more (alive_of j h.counted) (times j ids) p q l)

    received : (t : Bool) → (id == j) ≡ t → received_of j (released id h).counted ≡ cond t (cond (is_last j h) 0 (received_of j h.counted)) (received_of j h.counted)
    received t e = received_released j id h ∙ ap (λ (b : Bool). cond b (cond (is_last j h) 0 (received_of j h.counted)) (received_of j h.counted)) e

    by : (t : Bool) → (id == j) ≡ t
        → cond (is_last id h && t) (one id (received_of id h.counted)) (cond (all_back j ids (released id h)) (one j (received_of j (released id h).counted)) None) ≡ cond (all_back j (id ∷ ids) h) (one j (received_of j h.counted)) None
    by true e =
        (λ i. cond (is_last (from_eqb id j e i) h && true) (one (from_eqb id j e i) (received_of (from_eqb id j e i) h.counted)) (cond (back_of j ids (released id h) _ _ (alive_own j id h e) refl i) (one j (received true e i)) None))
        ∙ by_last (is_last j h) refl e (omega (arith, s j, times_same j id ids e)) (omega (arith, s j, times_same j id ids e))
        ∙ sym (ap (λ (b : Bool). cond b (one j (received_of j h.counted)) None) (back_of j (id ∷ ids) h _ _ refl (times_same j id ids e)))
    by false e =
        no_last (is_last id h) _ _
        ∙ (λ i. cond (back_of j ids (released id h) _ _ (alive_other j id h e) refl i) (one j (received false e i)) None)
        ∙ sym (ap (λ (b : Bool). cond b (one j (received_of j h.counted)) None) (back_of j (id ∷ ids) h _ _ refl (times_other j id ids e)))

-- The order of those that are answered

no_lower : ℕ → List Returned → Bool
no_lower n rs = list_all (λ x. nat_le n x.id) (map as_counted rs)

none_lower : (n : ℕ) (ids : List ℕ) (h : Holding) → list_all (nat_le n) ids ≡ true → no_lower n (returns_in ids h) ≡ true
unfolding no_lower
none_lower n [] h a = refl
none_lower n (id ∷ ids) h a = grind (arith, nat_tests, both (nat_le n id) (list_all (nat_le n) ids) a, two_true, none_lower n ids (released id h))

above_all : (n : ℕ) (list : List Counted) → list_all (λ x. nat_le n x.id) list ≡ true → counted_at n list ≡ None → list_all (λ x. nat_lt n x.id) list ≡ true
above_all n [] h k = refl
above_all n (x ∷ list) h k = grind (arith, nat_tests, both (nat_le n x.id) (list_all (λ x. nat_le n x.id) list) h, above_all n list, two_true)

pub rising_back : (ids : List ℕ) (h : Holding) → Suffice ids h → is_sorted ids ≡ true → is_rising (map as_counted (returns_in ids h)) ≡ true
unfolding is_sorted is_rising no_lower
rising_back [] h s o = refl
rising_back (id ∷ ids) h s o =
    let parts = both (list_all (nat_le id) ids) (is_sorted ids) o in
    by (is_last id h) refl (none_lower id ids (released id h) parts.0) (rising_back ids (released id h) (rest_suffices id ids h s) parts.1)
  where
    none : is_last id h ≡ true → counted_at id (map as_counted (returns_in ids (released id h))) ≡ None
    none l =
        found_back id ids (released id h) (rest_suffices id ids h s)
        ∙ (let gone : times id ids ≡ 0 = omega (arith, s id, times_own id ids, from_eqb (alive_of id h.counted) 1 l) in
        ap (λ (b : Bool). cond b (Some (record { id = id; received = received_of id (released id h).counted; alive = (released id h).client })) None) (back_of id ids (released id h) _ 0 refl gone))

    by : (t : Bool) → is_last id h ≡ t → no_lower id (returns_in ids (released id h)) ≡ true → is_rising (map as_counted (returns_in ids (released id h))) ≡ true
        → is_rising (map as_counted (option_to_list (cond t (Some (record { client = h.client; id = id; count = received_of id h.counted })) None) ++ returns_in ids (released id h))) ≡ true
    by true l low rest = two_true _ _ (above_all id (map as_counted (returns_in ids (released id h))) low (none l)) rest
    by false l low rest = rest

-- What is kept

pub client_all : (ids : List ℕ) (h : Holding) → (release_all ids h).client ≡ h.client
client_all [] h = refl
client_all (id ∷ ids) h = client_all ids (released id h)

pub queue_all : (ids : List ℕ) (h : Holding) → (release_all ids h).queue ≡ h.queue ++ returns_in ids h
queue_all [] h = sym (append-nil h.queue)
queue_all (id ∷ ids) h = queue_all ids (released id h) ∙ append_assoc h.queue (option_to_list (return_at id h)) (returns_in ids (released id h))

pub rising_all : (ids : List ℕ) (h : Holding) → is_rising h.counted ≡ true → is_rising (release_all ids h).counted ≡ true
rising_all [] h r = r
rising_all (id ∷ ids) h r = rising_all ids (released id h) (rising_released id h r)

pub some_all : (ids : List ℕ) (h : Holding) → Suffice ids h → are_some h.counted ≡ true → are_some (release_all ids h).counted ≡ true
some_all [] h s m = m
some_all (id ∷ ids) h s m = some_all ids (released id h) (rest_suffices id ids h s) (some_released id h (first_alive id ids h s) m)
