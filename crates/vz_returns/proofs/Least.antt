-- The least id from one on, as a map is gone through.
use Rattle.std.proofs.Common.{◌≡◌, ℕ, ◌+◌, ◌-◌, ◌<◌, ◌≤◌, Bool, true, false, Option, Some, None, List, [], ◌∷◌, ◌++◌, filter, length, drop, nat_lt, nat_le, refl, ap, sym, ◌∙◌, arith, cond}
use Rattle.std.specs.List.{list_all, slice_get}
use Rattle.std.proofs.lemmas.List.{drop_more, drop_all}
use Rattle.std.proofs.{lemmas.Option.slice_get_within, lemmas.Option.get_or_from_slice_get, lemmas.Bool.Decides.nat_tests}
use Rattle.std.proofs.lemmas.List.{append_assoc, append-nil}
use Rattle.vz_returns.specs.{declared.counts.Counts.Counts, Ordered.counted_of, Ordered.in_order}
use Rattle.vz_rules.specs.declared.entry.Returned.{Returned}
use Rattle.vz_returns.specs.Held.{Counted, is_rising, put_in, from_on, first_from, nearer, as_returns}
use Rattle.vz_returns.proofs.Releases.{both, from_eqb}

-- one more is put in
pub first_put : (n : ℕ) (c : Counted) (list : List Counted) → first_from n (put_in c list) ≡ nearer n (first_from n list) c.id c.received
unfolding first_from put_in
first_put n c [] = refl
first_put n c (x ∷ list) = grind (arith, nat_tests, from_eqb c.id x.id, first_put n c list)

-- One after the other

at_least_from : (n : ℕ) (list : List Counted) (p : ℕ × ℕ) → first_from n list ≡ Some p → n ≤ p.0
unfolding first_from
at_least_from n [] p e = absurd (cc)
at_least_from n (x ∷ list) p e = grind (arith, nat_tests, at_least_from n list p)

all_from : (n m : ℕ) (list : List Counted) → n ≤ m + 1 → list_all (λ x. nat_lt m x.id) list ≡ true → from_on n list ≡ list
unfolding from_on
all_from n m [] h k = refl
all_from n m (x ∷ list) h k = grind (arith, nat_tests, both (nat_lt m x.id) (list_all (λ x. nat_lt m x.id) list) k, all_from n m list h)

less_from : (n : ℕ) (x : Counted) (list : List Counted) → nat_le n x.id ≡ false → from_on n (x ∷ list) ≡ from_on n list
unfolding from_on
less_from n x list e = ap (λ t. cond t (x ∷ filter (λ c. nat_le n c.id) list) (filter (λ c. nat_le n c.id) list)) e

more_from : (n : ℕ) (x : Counted) (list : List Counted) → nat_le n x.id ≡ true → from_on n (x ∷ list) ≡ x ∷ from_on n list
unfolding from_on
more_from n x list e = ap (λ t. cond t (x ∷ filter (λ c. nat_le n c.id) list) (filter (λ c. nat_le n c.id) list)) e

as_more : (client : ℕ) (x : Counted) (list : List Counted) → as_returns client (x ∷ list) ≡ record { client = client; id = x.id; count = x.received } ∷ as_returns client list
unfolding as_returns
as_more client x list = refl

both_of : (a b : ℕ) (p : ℕ × ℕ) → ◌≡◌ {A = Option (ℕ × ℕ)} (Some (a, b)) (Some p) → ◌≡◌ {A = ℕ × ℕ} (a, b) p
both_of a b p e = cc

-- what is put in next
next_return : ℕ → ℕ × ℕ → Returned
next_return client p = record { client = client; id = p.0; count = p.1 }

pub first_some : (client n : ℕ) (list : List Counted) (p : ℕ × ℕ) → is_rising list ≡ true → first_from n list ≡ Some p
    → as_returns client (from_on n list) ≡ record { client = client; id = p.0; count = p.1 } ∷ as_returns client (from_on (p.0 + 1) list)
unfolding first_from is_rising next_return
first_some client n [] p r e = absurd (cc)
first_some client n (x ∷ list) p r e =
    let parts = both (list_all (λ y. nat_lt x.id y.id) list) (is_rising list) r in
    by (nat_le n x.id) refl e parts.0 (first_some client n list p parts.1)
  where
    by : (t : Bool) → nat_le n x.id ≡ t → cond t (Some (x.id, x.received)) (first_from n list) ≡ Some p → list_all (λ y. nat_lt x.id y.id) list ≡ true
        → (first_from n list ≡ Some p → as_returns client (from_on n list) ≡ record { client = client; id = p.0; count = p.1 } ∷ as_returns client (from_on (p.0 + 1) list))
        → as_returns client (from_on n (x ∷ list)) ≡ record { client = client; id = p.0; count = p.1 } ∷ as_returns client (from_on (p.0 + 1) (x ∷ list))
    by true t e above rest =
        let whole : ◌≡◌ {A = ℕ × ℕ} (x.id, x.received) p = both_of x.id x.received p e in
        let not_again : nat_le (x.id + 1) x.id ≡ false = grind (arith, nat_tests) in
        let low : n ≤ x.id + 1 = grind (arith, nat_tests, t) in
        let tail : from_on n list ≡ from_on (x.id + 1) (x ∷ list) =
        all_from n x.id list low above ∙ sym (less_from (x.id + 1) x list not_again ∙ all_from (x.id + 1) x.id list (omega arith) above) in
        let now : as_returns client (from_on n (x ∷ list)) ≡ next_return client (x.id, x.received) ∷ as_returns client (from_on (x.id + 1) (x ∷ list)) =
        ap (as_returns client) (more_from n x list t) ∙ (as_more client x (from_on n list) ∙ ap (λ l. next_return client (x.id, x.received) ∷ as_returns client l) tail) in
        now ∙ ap (λ (q : ℕ × ℕ). next_return client q ∷ as_returns client (from_on (q.0 + 1) (x ∷ list))) whole
    by false t e above rest =
        let least : n ≤ p.0 = at_least_from n list p e in
        let other : nat_le (p.0 + 1) x.id ≡ false = grind (arith, nat_tests, t, least) in
        ap (as_returns client) (less_from n x list t) ∙ (rest e ∙ ap (λ l. next_return client p ∷ as_returns client l) (sym (less_from (p.0 + 1) x list other)))

pub first_none : (n : ℕ) (list : List Counted) → first_from n list ≡ None → from_on n list ≡ []
unfolding first_from from_on
first_none n [] e = refl
first_none n (x ∷ list) e = grind (arith, nat_tests, first_none n list, less_from n x list)

-- As a map is gone through from its end

pub none_yet : (n k : ℕ) (entries : List (ℕ × Counts)) → k ≡ length entries → None ≡ first_from n (in_order (drop (k - 0) entries))
unfolding first_from in_order
none_yet n k entries e = sym (ap (λ l. first_from n (in_order l)) (drop_all (k - 0) entries (omega (arith, e))))

at_place : (entries : List (ℕ × Counts)) (i : ℕ) (e : ℕ × Counts) → slice_get entries i ≡ Some e → drop i entries ≡ e ∷ drop (i + 1) entries
at_place entries i e h = drop_more entries i e (slice_get_within entries i e h) ∙ ap (λ x. x ∷ drop (i + 1) entries) (get_or_from_slice_get entries i e e h)

pub next_entry : (n len k : ℕ) (entries : List (ℕ × Counts)) (e : ℕ × Counts) (least : Option (ℕ × ℕ)) → k < len → Some e ≡ slice_get entries (len - 1 - k)
    → least ≡ first_from n (in_order (drop (len - k) entries)) → nearer n least e.0 e.1.received ≡ first_from n (in_order (drop (len - (k + 1)) entries))
unfolding in_order
next_entry n len k entries e least low h is = grind (arith, nat_tests, at_place entries, first_put n (counted_of e.0 e.1))

-- Those that are put in

-- those before are in, and there is room for the rest
pub record ArePut (client : ℕ) (list : List Counted) (first : List Returned) (room : ℕ) (from : ℕ) (out : List Returned) (spare : ℕ) : Type 0 where
  pub put : out ++ as_returns client (from_on from list) ≡ first ++ as_returns client list
  pub left : spare + length list ≡ room + length (from_on from list)
  pub fits : length list ≤ room

as_length : (client : ℕ) (list : List Counted) → length (as_returns client list) ≡ length list
unfolding as_returns
as_length client [] = refl
as_length client (c ∷ list) = let rest = as_length client list in omega (arith, rest)

all_at_first : (list : List Counted) → from_on 0 list ≡ list
unfolding from_on
all_at_first [] = refl
all_at_first (c ∷ list) = grind (arith, nat_tests, more_from 0 c list, all_at_first list)

pub put_none : (client : ℕ) (list : List Counted) (first : List Returned) (room : ℕ) → length list ≤ room → ArePut client list first room 0 first room
put_none client list first room f = grind (arith, nat_tests, all_at_first)

fewer : (client from : ℕ) (list : List Counted) (p : ℕ × ℕ) → is_rising list ≡ true → first_from from list ≡ Some p → length (from_on from list) ≡ length (from_on (p.0 + 1) list) + 1
fewer client from list p r e = grind (arith, nat_tests, first_some client from list p r e, as_length client (from_on from list), as_length client)

-- there is room for one more, and fewer are left then
pub put_fits : (client : ℕ) (list : List Counted) (first : List Returned) (room from : ℕ) (out : List Returned) (spare : ℕ) (p : ℕ × ℕ) → ArePut client list first room from out spare
    → is_rising list ≡ true → first_from from list ≡ Some p → (0 < spare) × (length (from_on (p.0 + 1) list) < length (from_on from list))
put_fits client list first room from out spare p put r e = grind (arith, nat_tests, fewer client from list p r e)

pub put_one : (client : ℕ) (list : List Counted) (first : List Returned) (room from : ℕ) (out more : List Returned) (spare rest : ℕ) (p : ℕ × ℕ) → ArePut client list first room from out spare
    → is_rising list ≡ true → first_from from list ≡ Some p → more ≡ out ++ record { client = client; id = p.0; count = p.1 } ∷ [] → spare ≡ rest + 1 → ArePut client list first room (p.0 + 1) more rest
put_one client list first room from out more spare rest p put r e is used = grind (arith, nat_tests, fewer, append_assoc, first_some)

pub put_all_in : (client : ℕ) (list : List Counted) (first : List Returned) (room from : ℕ) (out : List Returned) (spare : ℕ) → ArePut client list first room from out spare
    → first_from from list ≡ None → (out ≡ first ++ as_returns client list) × (room ≡ spare + length list)
unfolding as_returns
put_all_in client list first room from out spare put e = grind (arith, nat_tests, first_none from list e, append-nil out)
