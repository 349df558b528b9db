-- Lists by rising ids: what is found in them, and that two in which the same is found are one.
use Rattle.std.proofs.Common.{◌≡◌, ℕ, ◌+◌, Bool, true, false, ◌==◌, ◌<◌, ◌≤◌, min, Option, Some, None, is_some, Result, Ok, Err, OnErr, IsOk, List, [], ◌∷◌, length, nat_lt, nat_eq, refl, ap, sym, ◌∙◌, arith, cond}
use Rattle.std.specs.{List.list_all, List.AllByRecursion, List.IsDistinct, Map.lookup, Map.keys_of, Option.option_map}
use Rattle.std.proofs.{lemmas.Bool.Decides.nat_tests, lemmas.Bool.and_parts as both, lemmas.Bool.eqb-true as from_eqb}
use Rattle.vz_returns.specs.{declared.counts.Counts.Counts, Ordered.counted_of, Ordered.in_order}
use Rattle.vz_returns.specs.Held.{Counted, counted_at, received_of, alive_of, is_rising, put_in, without}

-- What is found

pub at_put : (j : ℕ) (c : Counted) (list : List Counted) → counted_at j (put_in c list) ≡ cond (c.id == j) (Some c) (counted_at j list)
unfolding put_in
at_put j c [] = refl
at_put j c (x ∷ list) = grind (arith, nat_tests, at_put j c list)

pub at_without : (j id : ℕ) (list : List Counted) → counted_at j (without id list) ≡ cond (id == j) None (counted_at j list)
unfolding without
at_without j id [] = grind (arith, nat_tests)
at_without j id (x ∷ list) = grind (arith, nat_tests, at_without j id list)

-- what a map has at an id is found in its order
pub at_order : (j : ℕ) (entries : List (ℕ × Counts)) → counted_at j (in_order entries) ≡ option_map (counted_of j) (lookup (nat_eq j) entries)
unfolding in_order
at_order j [] = refl
at_order j (e ∷ entries) =
    at_put j (counted_of e.0 e.1) (in_order entries) ∙ ap (λ o. cond (e.0 == j) (Some (counted_of e.0 e.1)) o) (at_order j entries)
    ∙ first (e.0 == j) (nat_eq j e.0) (grind (arith, nat_tests)) (λ h. from_eqb e.0 j h)
  where
    first : (a b : Bool) → a ≡ b → (a ≡ true → e.0 ≡ j) → cond a (Some (counted_of e.0 e.1)) (option_map (counted_of j) (lookup (nat_eq j) entries)) ≡ option_map (counted_of j) (cond b (Some e.1) (lookup (nat_eq j) entries))
    first true true h own = ap (λ n. Some (counted_of n e.1)) (own refl)
    first false false h own = refl
    first true false h own = absurd (cc)
    first false true h own = absurd (cc)

-- The order

above : ℕ → List Counted → Bool
above n list = list_all (λ x. nat_lt n x.id) list

above_put : (n : ℕ) (c : Counted) (list : List Counted) → nat_lt n c.id ≡ true → above n list ≡ true → above n (put_in c list) ≡ true
unfolding put_in above
above_put n c [] h k = grind (arith, nat_tests)
above_put n c (x ∷ list) h k = grind (arith, nat_tests, above_put n c list)

above_less : (n m : ℕ) (list : List Counted) → nat_lt n m ≡ true → above m list ≡ true → above n list ≡ true
unfolding above
above_less n m [] h k = refl
above_less n m (x ∷ list) h k = grind (arith, nat_tests, above_less n m list)

pub rising_put : (c : Counted) (list : List Counted) → is_rising list ≡ true → is_rising (put_in c list) ≡ true
unfolding put_in is_rising above
rising_put c [] h = refl
rising_put c (x ∷ list) h = grind (arith, nat_tests, above_less c.id x.id list, above_put x.id c list, rising_put c list)

above_without : (n id : ℕ) (list : List Counted) → above n list ≡ true → above n (without id list) ≡ true
unfolding without above
above_without n id [] h = refl
above_without n id (x ∷ list) h = grind (arith, nat_tests, above_without n id list)

pub rising_without : (id : ℕ) (list : List Counted) → is_rising list ≡ true → is_rising (without id list) ≡ true
unfolding without is_rising above
rising_without id [] h = refl
rising_without id (x ∷ list) h = grind (arith, nat_tests, above_without x.id id list, rising_without id list)

pub rising_order : (entries : List (ℕ × Counts)) → is_rising (in_order entries) ≡ true
unfolding in_order is_rising
rising_order [] = refl
rising_order (e ∷ entries) = rising_put (counted_of e.0 e.1) (in_order entries) (rising_order entries)

-- Two lists in which the same is found

none_below : (n : ℕ) (list : List Counted) → above n list ≡ true → counted_at n list ≡ None
unfolding above
none_below n [] h = refl
none_below n (x ∷ list) h = grind (arith, nat_tests, none_below n list)

-- a smaller id than all of a list is found in none of its ends
none_less : (n m : ℕ) (list : List Counted) → nat_lt n m ≡ true → above m list ≡ true → counted_at n list ≡ None
none_less n m list h k = none_below n list (above_less n m list h k)

own : (x : Counted) (list : List Counted) → counted_at x.id (x ∷ list) ≡ Some x
own x list = grind (arith, nat_tests)

some_is : (x y : Counted) → Some x ≡ Some y → x ≡ y
some_is x y e = cc

not_none : (x : Counted) → Some x ≡ None → true ≡ false
not_none x e = absurd (cc)

-- the first of a list that has no smaller first stands in the other one no lower
not_less : (x y : Counted) (ys : List Counted) → above y.id ys ≡ true → counted_at x.id (y ∷ ys) ≡ Some x → nat_lt x.id y.id ≡ true → true ≡ false
not_less x y ys h found less = grind (arith, nat_tests, none_less x.id y.id ys less h)

one_id : (a b : ℕ) → (nat_lt a b ≡ true → true ≡ false) → (nat_lt b a ≡ true → true ≡ false) → a ≡ b
one_id a b f g = grind (arith, nat_tests)

rests : (x : Counted) (xs ys : List Counted) → above x.id xs ≡ true → above x.id ys ≡ true → ((j : ℕ) → counted_at j (x ∷ xs) ≡ counted_at j (x ∷ ys)) → (j : ℕ) → counted_at j xs ≡ counted_at j ys
rests x xs ys h k same j = grind (arith, nat_tests, same j, none_below x.id xs h, none_below x.id ys k)

pub one_list : (xs ys : List Counted) → is_rising xs ≡ true → is_rising ys ≡ true → ((j : ℕ) → counted_at j xs ≡ counted_at j ys) → xs ≡ ys
unfolding is_rising above
one_list [] [] h k same = refl
one_list [] (y ∷ ys) h k same = let no_way : true ≡ false = not_none y (sym (own y ys) ∙ sym (same y.id)) in absurd (cc)
one_list (x ∷ xs) [] h k same = let no_way : true ≡ false = not_none x (sym (own x xs) ∙ same x.id) in absurd (cc)
one_list (x ∷ xs) (y ∷ ys) h k same =
    let p = both (list_all (λ z. nat_lt x.id z.id) xs) (is_rising xs) h in
    let q = both (list_all (λ z. nat_lt y.id z.id) ys) (is_rising ys) k in
    let there : counted_at x.id (y ∷ ys) ≡ Some x = sym (same x.id) ∙ own x xs in
    let here : counted_at y.id (x ∷ xs) ≡ Some y = same y.id ∙ own y ys in
    let id : x.id ≡ y.id = one_id x.id y.id (not_less x y ys q.0 there) (not_less y x xs p.0 here) in
    let first : x ≡ y = some_is x y (sym there ∙ ap (λ n. counted_at n (y ∷ ys)) id ∙ own y ys) in
    let tail : xs ≡ ys = one_list xs ys p.1 q.1 (rests x xs ys p.0 (ap (λ n. list_all (λ (z : Counted). nat_lt n z.id) ys) id ∙ q.0) (λ j. same j ∙ sym (ap (λ z. counted_at j (z ∷ ys)) first))) in
    λ i. first i ∷ tail i

-- How many

pub put_new : (c : Counted) (list : List Counted) → counted_at c.id list ≡ None → length (put_in c list) ≡ length list + 1
unfolding put_in
put_new c [] h = refl
put_new c (x ∷ list) h = grind (arith, nat_tests, put_new c list)

-- a key that no other is equal to is found in no rest
absent : (n : ℕ) (entries : List (ℕ × Counts)) → AllByRecursion (λ y. nat_eq n y ≡ false) (keys_of entries) → lookup (nat_eq n) entries ≡ None
absent n [] h = refl
absent n (e ∷ entries) h = ap (λ t. cond t (Some e.1) (lookup (nat_eq n) entries)) h.0 ∙ absent n entries h.1

pub order_length : (entries : List (ℕ × Counts)) → IsDistinct nat_eq (keys_of entries) → length (in_order entries) ≡ length entries
unfolding in_order IsDistinct
order_length [] h = refl
order_length (e ∷ entries) h = grind (arith, nat_tests, at_order e.0 entries, absent e.0 entries h.0, order_length entries h.1, put_new (counted_of e.0 e.1) (in_order entries))

-- Maps

-- what a map has after a change of one id
abbrev pub IsChanged : List (ℕ × Counts) → List (ℕ × Counts) → ℕ → Option Counts → Type 0
IsChanged old new id counts = (q : ℕ) → lookup (nat_eq q) new ≡ cond (nat_eq id q) counts (lookup (nat_eq q) old)

found_after : (old new : List (ℕ × Counts)) (id : ℕ) (counts : Option Counts) → IsChanged old new id counts → (j : ℕ) → counted_at j (in_order new) ≡ cond (id == j) (option_map (counted_of id) counts) (counted_at j (in_order old))
found_after old new id counts changed j = grind (arith, nat_tests, at_order j new, own, from_eqb id j, at_order j old)

pub order_put : (old new : List (ℕ × Counts)) (id : ℕ) (counts : Counts) → IsChanged old new id (Some counts) → in_order new ≡ put_in (counted_of id counts) (in_order old)
order_put old new id counts changed =
    one_list (in_order new) (put_in (counted_of id counts) (in_order old)) (rising_order new) (rising_put (counted_of id counts) (in_order old) (rising_order old))
    (λ j. found_after old new id (Some counts) changed j ∙ sym (at_put j (counted_of id counts) (in_order old)))

pub order_without : (old new : List (ℕ × Counts)) (id : ℕ) → IsChanged old new id None → in_order new ≡ without id (in_order old)
order_without old new id changed =
    one_list (in_order new) (without id (in_order old)) (rising_order new) (rising_without id (in_order old) (rising_order old))
    (λ j. found_after old new id None changed j ∙ sym (at_without j id (in_order old)))

-- what is read of an id
pub read_some : (j : ℕ) (entries : List (ℕ × Counts)) (c : Counts) → Some c ≡ lookup (nat_eq j) entries → counted_at j (in_order entries) ≡ Some (counted_of j c)
read_some j entries c e = at_order j entries ∙ ap (option_map (counted_of j)) (sym e)

pub read_none : (j : ℕ) (entries : List (ℕ × Counts)) → None ≡ lookup (nat_eq j) entries → counted_at j (in_order entries) ≡ None
read_none j entries e = at_order j entries ∙ ap (option_map (counted_of j)) (sym e)

pub received_some : (j : ℕ) (list : List Counted) (c : Counted) → counted_at j list ≡ Some c → c.received ≡ received_of j list
unfolding received_of
received_some j list c e = sym (ap (λ (o : Option Counted). elim o [ Some x ↦ x.received | None ↦ 0 ]) e)

pub received_none : (j : ℕ) (list : List Counted) → counted_at j list ≡ None → 0 ≡ received_of j list
unfolding received_of
received_none j list e = sym (ap (λ (o : Option Counted). elim o [ Some x ↦ x.received | None ↦ 0 ]) e)

pub alive_some : (j : ℕ) (list : List Counted) (c : Counted) → counted_at j list ≡ Some c → c.alive ≡ alive_of j list
unfolding alive_of
alive_some j list c e = sym (ap (λ (o : Option Counted). elim o [ Some x ↦ x.alive | None ↦ 0 ]) e)

pub alive_none : (j : ℕ) (list : List Counted) → counted_at j list ≡ None → 0 ≡ alive_of j list
unfolding alive_of
alive_none j list e = sym (ap (λ (o : Option Counted). elim o [ Some x ↦ x.alive | None ↦ 0 ]) e)

without_none : (id : ℕ) (list : List Counted) → counted_at id list ≡ None → without id list ≡ list
unfolding without
without_none id [] h = refl
without_none id (x ∷ list) h = grind (arith, nat_tests, without_none id list)

pub without_length : (id : ℕ) (list : List Counted) → is_rising list ≡ true → is_some (counted_at id list) ≡ true → length (without id list) + 1 ≡ length list
unfolding without is_rising above
without_length id [] h k = absurd (cc)
without_length id (x ∷ list) h k = grind (arith, nat_tests, without_length id list, none_below x.id list, without_none id list)

-- where some reference is alive there are counts
pub counts_there : (j : ℕ) (list : List Counted) → 0 < alive_of j list → is_some (counted_at j list) ≡ true
unfolding alive_of
counts_there j list h = grind (arith, nat_tests)

pub put_same : (c : Counted) (list : List Counted) → is_rising list ≡ true → is_some (counted_at c.id list) ≡ true → length (put_in c list) ≡ length list
unfolding put_in is_rising above
put_same c [] h k = absurd (cc)
put_same c (x ∷ list) h k = grind (arith, nat_tests, none_less c.id x.id list, put_same c list)

pub put_more : (c : Counted) (list : List Counted) → length (put_in c list) ≤ length list + 1
unfolding put_in
put_more c [] = omega arith
put_more c (x ∷ list) = grind (arith, nat_tests, put_more c list)

-- Room

pub least_room : (s a x : ℕ) → min a x ≡ s → (s ≤ a) × (s ≤ x)
least_room s a x h = (omega arith, omega arith)

pub least_kept : (s a b x y : ℕ) → min a x ≡ s → a ≤ b → x ≤ y → s ≤ min b y
least_kept s a b x y h p q = omega arith

pub least_used : (s a b x y : ℕ) → min a x ≡ s → a ≤ b + 1 → x ≤ y + 1 → s ≤ min b y + 1
least_used s a b x y h p q = omega arith

-- what is well says nothing of an error
pub no_error : {T E : Type 0} (r : Result T E) (P : Type 0) → IsOk r → OnErr r P
no_error (Ok x) P well = tt
no_error (Err e) P well = absurd (cc)
