-- All references that are alive: how their number changes, and that no more are released.
use Rattle.std.proofs.Common.{◌≡◌, ℕ, ◌+◌, ◌<◌, ◌≤◌, Bool, true, false, not, ◌==◌, List, [], ◌∷◌, length, filter, nat_lt, refl, ap, sym, ◌∙◌, arith, cond}
use Rattle.std.specs.List.{list_all}
use Rattle.std.proofs.{lemmas.Bool.Decides.nat_tests, lemmas.List.Sums.sum_by-cons}
use Rattle.vz_returns.specs.Held.{Counted, Holding, alive_of, is_rising, put_in, without, lent, shared, released}
use Rattle.vz_returns.specs.{Released.times, Lent.all_alive}
use Rattle.vz_returns.proofs.{Releases.both, Releases.from_eqb, Releases.to_eqb, Listings.times_at}

pub all_cons : (x : Counted) (list : List Counted) → all_alive (x ∷ list) ≡ x.alive + all_alive list
unfolding all_alive
all_cons x list = sum_by-cons (λ (c : Counted). c.alive) x list

pub alive_cons : (id : ℕ) (x : Counted) (list : List Counted) → alive_of id (x ∷ list) ≡ cond (x.id == id) x.alive (alive_of id list)
unfolding alive_of
alive_cons id x list = grind (arith, nat_tests)

alive_at : (id : ℕ) (x : Counted) (list : List Counted) (t : Bool) → (x.id == id) ≡ t
    → alive_of id (x ∷ list) ≡ cond t x.alive (alive_of id list)
alive_at id x list t e = alive_cons id x list ∙ ap (λ (b : Bool). cond b x.alive (alive_of id list)) e

alive_none : (n : ℕ) → alive_of n [] ≡ 0
unfolding alive_of
alive_none n = refl

none_above : (n : ℕ) (list : List Counted) → list_all (λ x. nat_lt n x.id) list ≡ true → alive_of n list ≡ 0
none_above n [] h = alive_none n
none_above n (x ∷ list) h = grind (arith, nat_tests, both (nat_lt n x.id) (list_all (λ x. nat_lt n x.id) list) h, alive_at n x list false, none_above n list)

above_less : (n m : ℕ) (list : List Counted) → nat_lt n m ≡ true → list_all (λ x. nat_lt m x.id) list ≡ true
    → list_all (λ x. nat_lt n x.id) list ≡ true
above_less n m [] l h = refl
above_less n m (x ∷ list) l h = grind (arith, nat_tests, both (nat_lt m x.id) (list_all (λ x. nat_lt m x.id) list) h, above_less n m list l)

other_way : (a b : ℕ) (t : Bool) → (a == b) ≡ t → (b == a) ≡ t
other_way a b true e = to_eqb b a (sym (from_eqb a b e))
other_way a b false e = grind (arith, nat_tests, e)

pub all_put : (c : Counted) (list : List Counted) → is_rising list ≡ true
    → all_alive (put_in c list) + alive_of c.id list ≡ all_alive list + c.alive
unfolding put_in is_rising
all_put c [] up = omega (arith, all_cons c [], alive_none c.id)
all_put c (x ∷ list) up = by (c.id == x.id) (nat_lt c.id x.id) refl refl (λ rest. all_put c list rest)
  where
    by : (t l : Bool) → (c.id == x.id) ≡ t → nat_lt c.id x.id ≡ l
        → (is_rising list ≡ true → all_alive (put_in c list) + alive_of c.id list ≡ all_alive list + c.alive)
        → all_alive (cond t (c ∷ list) (cond l (c ∷ x ∷ list) (x ∷ put_in c list))) + alive_of c.id (x ∷ list)
        ≡ all_alive (x ∷ list) + c.alive
    by true l e f r = omega (arith, all_cons c list, all_cons x list, alive_at c.id x list true (other_way c.id x.id true e))
    by false true e f r =
        let parts = both (list_all (λ y. nat_lt x.id y.id) list) (is_rising list) up in
        omega (
          arith,
          all_cons c (x ∷ list),
          all_cons x list,
          alive_at c.id x list false (other_way c.id x.id false e),
          none_above c.id list
              (above_less c.id x.id list f parts.0),
        )
    by false false e f r =
        let parts = both (list_all (λ y. nat_lt x.id y.id) list) (is_rising list) up in
        omega (arith, all_cons x (put_in c list), all_cons x list, alive_at c.id x list false (other_way c.id x.id false e), r parts.1)

without_none : (id : ℕ) (list : List Counted) → list_all (λ x. nat_lt id x.id) list ≡ true → without id list ≡ list
unfolding without
without_none id [] h = refl
without_none id (x ∷ list) h = grind (arith, nat_tests, both (nat_lt id x.id) (list_all (λ x. nat_lt id x.id) list) h, without_none id list)

pub all_without : (id : ℕ) (list : List Counted) → is_rising list ≡ true → all_alive (without id list) + alive_of id list ≡ all_alive list
unfolding without is_rising
all_without id [] up = omega (arith, alive_none id)
all_without id (x ∷ list) up =
    grind (arith, nat_tests, all_without id list, both, from_eqb x.id id, without_none x.id list, alive_at id x list true, all_cons x list, all_cons x (without id list), alive_at id x list false)

pub all_lent : (id : ℕ) (h : Holding) → is_rising h.counted ≡ true → all_alive (lent id h).counted ≡ all_alive h.counted + 1
all_lent id h up = grind (arith, nat_tests, all_put)

pub all_shared : (id : ℕ) (h : Holding) → is_rising h.counted ≡ true → all_alive (shared id h).counted ≡ all_alive h.counted + 1
all_shared id h up = grind (arith, nat_tests, all_put)

pub all_released : (id : ℕ) (h : Holding) → is_rising h.counted ≡ true → 0 < alive_of id h.counted
    → all_alive (released id h).counted + 1 ≡ all_alive h.counted
all_released id h up some = grind (arith, nat_tests, all_without id h.counted up, from_eqb (alive_of id h.counted) 1, all_put)

-- No more are released than are alive

-- the ids that are another one
others : ℕ → List ℕ → List ℕ
others id ids = filter (λ n. not (n == id)) ids

split_length : (id : ℕ) (ids : List ℕ) → length ids ≡ times id ids + length (others id ids)
unfolding others
split_length id [] = refl
split_length id (n ∷ ids) = grind (arith, nat_tests, split_length id ids, times_at id n ids true, times_at id n ids false)

times_others : (id j : ℕ) (ids : List ℕ) (t : Bool) → (id == j) ≡ t → times j (others id ids) ≡ cond t 0 (times j ids)
unfolding others
times_others id j [] true e = refl
times_others id j [] false e = refl
times_others id j (n ∷ ids) t e = by (n == id) (n == j) refl refl (times_others id j ids t e)
  where
    by : (a b : Bool) → (n == id) ≡ a → (n == j) ≡ b → times j (others id ids) ≡ cond t 0 (times j ids)
        → times j (cond (not a) (n ∷ others id ids) (others id ids)) ≡ cond t 0 (times j (n ∷ ids))
    by a b f g rest = by_all t a b e f g rest
      where
        by_all : (t a b : Bool) → (id == j) ≡ t → (n == id) ≡ a → (n == j) ≡ b → times j (others id ids) ≡ cond t 0 (times j ids)
            → times j (cond (not a) (n ∷ others id ids) (others id ids)) ≡ cond t 0 (times j (n ∷ ids))
        by_all true true b e f g rest = rest
        by_all true false true e f g rest = let bad : true ≡ false = sym (to_eqb n id (from_eqb n j g ∙ sym (from_eqb id j e)))
            ∙ f in absurd (cc)
        by_all true false false e f g rest = omega (arith, times_at j n (others id ids) false g, rest)
        by_all false true true e f g rest = let bad : true ≡ false = sym (to_eqb id j (sym (from_eqb n id f) ∙ from_eqb n j g))
            ∙ e in absurd (cc)
        by_all false true false e f g rest = omega (arith, times_at j n ids false g, rest)
        by_all false false true e f g rest = omega (arith, times_at j n (others id ids) true g, times_at j n ids true g, rest)
        by_all false false false e f g rest = omega (arith, times_at j n (others id ids) false g, times_at j n ids false g, rest)

pub no_more : (ids : List ℕ) (list : List Counted) → ((id : ℕ) → times id ids ≤ alive_of id list) → length ids ≤ all_alive list
no_more [] list few = omega arith
no_more (n ∷ ids) [] few = absurd (omega (arith, few n, times_at n n ids true (to_eqb n n refl), alive_none n))
no_more (n ∷ ids) (x ∷ list) few =
    let rest = no_more (others x.id (n ∷ ids)) list (λ j. by j (x.id == j) refl) in
    omega (arith, rest, split_length x.id (n ∷ ids), few x.id, alive_at x.id x list true (to_eqb x.id x.id refl), all_cons x list)
  where
    by : (j : ℕ) (t : Bool) → (x.id == j) ≡ t → times j (others x.id (n ∷ ids)) ≤ alive_of j list
    by j true e = omega (arith, times_others x.id j (n ∷ ids) true e)
    by j false e = omega (arith, times_others x.id j (n ∷ ids) false e, few j, alive_at j x list false e)
