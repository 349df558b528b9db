-- Lists by rising numbers: what is found in them, and that two in which the same is found are one.
use Rattle.std.proofs.Common.{◌≡◌, ℕ, ◌+◌, Bool, true, false, ◌<◌, Option, Some, None, inl, inr, List, [], ◌∷◌, ◌++◌, length, filter, nat_lt, nat_eq, refl, ap, sym, ◌∙◌, arith, cond}
use Rattle.std.specs.List.{list_all, AllByRecursion, IsDistinct}
use Rattle.std.specs.Map.{lookup, keys_of}
use Rattle.std.proofs.lemmas.Bool.Decides.{nat_tests}
use Rattle.vz_deps.specs.Ordered.{put_in, in_order, is_rising}
use Rattle.vz_deps.proofs.Same.{both, two, either, pick_yes, pick_no, some_same, from_number, own_number}

-- What is found

found_same : {V : Type 0} (a b : Bool) (v : V) (w : V) (o : Option V) → a ≡ b → cond a (Some v) o ≡ cond a (Some v) (cond b (Some w) o)
found_same true b v w o h = refl
found_same false false v w o h = refl
found_same false true v w o h = absurd (cc)

found_apart : {V : Type 0} (a b : Bool) (v w : V) (o : Option V) → (a ≡ true → b ≡ true → true ≡ false) → cond b (Some w) (cond a (Some v) o) ≡ cond a (Some v) (cond b (Some w) o)
found_apart true true v w o h = let no_way : true ≡ false = h refl refl in absurd (cc)
found_apart true false v w o h = refl
found_apart false b v w o h = refl

pub at_put : {V : Type 0} (j : ℕ) (e : ℕ × V) (list : List (ℕ × V)) → lookup (nat_eq j) (put_in e list) ≡ cond (nat_eq j e.0) (Some e.1) (lookup (nat_eq j) list)
unfolding put_in
at_put j e [] = refl
at_put {V} j e (x ∷ list) = grind (arith, nat_tests, found_same, from_number, at_put j e list, found_apart)

-- what a map has at a number is found in its order
pub at_order : {V : Type 0} (j : ℕ) (entries : List (ℕ × V)) → lookup (nat_eq j) (in_order entries) ≡ lookup (nat_eq j) entries
unfolding in_order
at_order j [] = refl
at_order j (e ∷ entries) = at_put j e (in_order entries) ∙ ap (λ o. cond (nat_eq j e.0) (Some e.1) o) (at_order j entries)

-- The order

abbrev pub above : {V : Type 0} → ℕ → List (ℕ × V) → Bool
above n list = list_all (λ x. nat_lt n x.0) list

above_put : {V : Type 0} (n : ℕ) (e : ℕ × V) (list : List (ℕ × V)) → nat_lt n e.0 ≡ true → above n list ≡ true → above n (put_in e list) ≡ true
unfolding put_in
above_put n e [] h k = two _ _ h refl
above_put n e (x ∷ list) h k = grind (arith, nat_tests, both (nat_lt n x.0), two, above_put n e list h)

pub above_less : {V : Type 0} (n m : ℕ) (list : List (ℕ × V)) → nat_lt n m ≡ true → above m list ≡ true → above n list ≡ true
above_less n m [] h k = refl
above_less n m (x ∷ list) h k = grind (arith, nat_tests, both (nat_lt m x.0), two, above_less n m list h)

rising_put : {V : Type 0} (e : ℕ × V) (list : List (ℕ × V)) → is_rising list ≡ true → is_rising (put_in e list) ≡ true
unfolding put_in is_rising
rising_put e [] h = refl
rising_put e (x ∷ list) h = grind (arith, nat_tests, both, two, from_number e.0 x.0, above_less e.0 x.0 list, above_put x.0 e list, rising_put e list)

pub rising_order : {V : Type 0} (entries : List (ℕ × V)) → is_rising (in_order entries) ≡ true
unfolding in_order is_rising
rising_order [] = refl
rising_order (e ∷ entries) = rising_put e (in_order entries) (rising_order entries)

above_filter : {V : Type 0} (n : ℕ) (p : ℕ × V → Bool) (list : List (ℕ × V)) → above n list ≡ true → above n (filter p list) ≡ true
above_filter n p [] h = refl
above_filter n p (x ∷ list) h = grind (arith, nat_tests, both (nat_lt n x.0), two, above_filter n p list)

pub rising_filter : {V : Type 0} (p : ℕ × V → Bool) (list : List (ℕ × V)) → is_rising list ≡ true → is_rising (filter p list) ≡ true
unfolding is_rising
rising_filter p [] h = refl
rising_filter p (x ∷ list) h = grind (arith, nat_tests, both, two, above_filter x.0 p list, rising_filter p list)

-- Two lists in which the same is found

pub none_below : {V : Type 0} (n : ℕ) (list : List (ℕ × V)) → above n list ≡ true → lookup (nat_eq n) list ≡ None
none_below n [] h = refl
none_below n (x ∷ list) h = grind (arith, nat_tests, both (nat_lt n x.0), pick_no, none_below n list)

pub own : {V : Type 0} (x : ℕ × V) (list : List (ℕ × V)) → lookup (nat_eq x.0) (x ∷ list) ≡ Some x.1
own x list = pick_yes _ _ _ (own_number x.0)

not_none : {V : Type 0} (v : V) → Some v ≡ None → true ≡ false
not_none v e = absurd (cc)

not_less : {V : Type 0} (x y : ℕ × V) (ys : List (ℕ × V)) → above y.0 ys ≡ true → lookup (nat_eq x.0) (y ∷ ys) ≡ Some x.1 → nat_lt x.0 y.0 ≡ true → true ≡ false
not_less x y ys h found less = grind (arith, nat_tests, not_none x.1, pick_no, none_below x.0 ys (above_less x.0 y.0 ys less h), above_less x.0 y.0 ys less h)

one_number : (a b : ℕ) (s t : Bool) → nat_lt a b ≡ s → nat_lt b a ≡ t → (s ≡ true → true ≡ false) → (t ≡ true → true ≡ false) → a ≡ b
one_number a b true t p q f g = let no_way : true ≡ false = f refl in absurd (cc)
one_number a b false true p q f g = let no_way : true ≡ false = g refl in absurd (cc)
one_number a b false false p q f g = grind (arith, nat_tests, p, q)

rests : {V : Type 0} (x : ℕ × V) (xs ys : List (ℕ × V)) → above x.0 xs ≡ true → above x.0 ys ≡ true → ((j : ℕ) → lookup (nat_eq j) (x ∷ xs) ≡ lookup (nat_eq j) (x ∷ ys)) → (j : ℕ) → lookup (nat_eq j) xs ≡ lookup (nat_eq j) ys
rests x xs ys h k same j = grind (arith, nat_tests, either (nat_eq j x.0), from_number j x.0, none_below x.0 xs h, none_below x.0 ys k, pick_no)

pub one_list : {V : Type 0} (xs ys : List (ℕ × V)) → is_rising xs ≡ true → is_rising ys ≡ true → ((j : ℕ) → lookup (nat_eq j) xs ≡ lookup (nat_eq j) ys) → xs ≡ ys
unfolding is_rising
one_list [] [] h k same = refl
one_list [] (y ∷ ys) h k same = let no_way : true ≡ false = not_none y.1 (sym (own y ys) ∙ sym (same y.0)) in absurd (cc)
one_list (x ∷ xs) [] h k same = let no_way : true ≡ false = not_none x.1 (sym (own x xs) ∙ same x.0) in absurd (cc)
one_list {V} (x ∷ xs) (y ∷ ys) h k same =
    let p = both (above x.0 xs) (is_rising xs) h in
    let q = both (above y.0 ys) (is_rising ys) k in
    let there : lookup (nat_eq x.0) (y ∷ ys) ≡ Some x.1 = sym (same x.0) ∙ own x xs in
    let here : lookup (nat_eq y.0) (x ∷ xs) ≡ Some y.1 = same y.0 ∙ own y ys in
    let number : x.0 ≡ y.0 = one_number x.0 y.0 (nat_lt x.0 y.0) (nat_lt y.0 x.0) refl refl (not_less x y ys q.0 there) (not_less y x xs p.0 here) in
    let value : x.1 ≡ y.1 = some_same x.1 y.1 (sym there ∙ ap (λ n. lookup (nat_eq n) (y ∷ ys)) number ∙ own y ys) in
    let first : x ≡ y = λ i. (number i, value i) in
    let tail : xs ≡ ys = one_list xs ys p.1 q.1 (rests x xs ys p.0 (ap (λ n. above n ys) number ∙ q.0) (λ j. same j ∙ sym (ap (λ (z : ℕ × V). lookup (nat_eq j) (z ∷ ys)) first))) in
    λ i. first i ∷ tail i

-- How many

put_new : {V : Type 0} (e : ℕ × V) (list : List (ℕ × V)) → lookup (nat_eq e.0) list ≡ None → length (put_in e list) ≡ length list + 1
unfolding put_in
put_new e [] h = omega arith
put_new {V} e (x ∷ list) h = grind (arith, nat_tests, not_none x.1, pick_yes, put_new e list, pick_no)

absent : {V : Type 0} (n : ℕ) (entries : List (ℕ × V)) → AllByRecursion (λ y. nat_eq n y ≡ false) (keys_of entries) → lookup (nat_eq n) entries ≡ None
absent n [] h = refl
absent n (e ∷ entries) h = pick_no _ _ _ h.0 ∙ absent n entries h.1

pub order_length : {V : Type 0} (entries : List (ℕ × V)) → IsDistinct nat_eq (keys_of entries) → length (in_order entries) ≡ length entries
unfolding in_order IsDistinct
order_length [] h = refl
order_length (e ∷ entries) h = grind (arith, nat_tests, at_order e.0 entries, absent e.0 entries h.0, order_length entries h.1, put_new e (in_order entries))

-- Changes of a map

-- what is found of a part of a list by rising numbers
unfoldable pub keep_at : {V : Type 0} → (ℕ × V → Bool) → ℕ → Option V → Option V
keep_at p j None = None
keep_at p j (Some v) = cond (p (j, v)) (Some v) None

pub at_filter : {V : Type 0} (p : ℕ × V → Bool) (j : ℕ) (list : List (ℕ × V)) → is_rising list ≡ true → lookup (nat_eq j) (filter p list) ≡ keep_at p j (lookup (nat_eq j) list)
unfolding is_rising keep_at
at_filter p j [] h = refl
at_filter {V} p j (x ∷ list) h = grind (arith, nat_tests, both, at_filter p j list, either, from_number, none_below, pick_yes, pick_no)

-- a map that has exactly those that pass a test is a part of the other in order
pub order_filter : {V : Type 0} (p : ℕ × V → Bool) (old new : List (ℕ × V)) → ((j : ℕ) → lookup (nat_eq j) new ≡ keep_at p j (lookup (nat_eq j) old)) → in_order new ≡ filter p (in_order old)
order_filter p old new is = grind (arith, nat_tests, one_list, rising_order, rising_filter, at_order, at_filter)

-- one more, of a greater number than all

pub at_end_of : {V : Type 0} (j : ℕ) (list : List (ℕ × V)) (e : ℕ × V) → lookup (nat_eq e.0) list ≡ None → lookup (nat_eq j) (list ++ e ∷ []) ≡ cond (nat_eq e.0 j) (Some e.1) (lookup (nat_eq j) list)
at_end_of j [] e h = grind (arith, nat_tests)
at_end_of j (x ∷ list) e h =
    grind (arith, nat_tests, either (nat_eq e.0 x.0), not_none x.1, pick_yes, at_end_of j list e, pick_no, found_apart (nat_eq e.0 j) (nat_eq j x.0) e.1 x.1 (lookup (nat_eq j) list))

above_end : {V : Type 0} (n : ℕ) (list : List (ℕ × V)) (e : ℕ × V) → nat_lt n e.0 ≡ true → above n list ≡ true → above n (list ++ e ∷ []) ≡ true
above_end n [] e h k = two _ _ h refl
above_end n (x ∷ list) e h k = grind (arith, nat_tests, both (nat_lt n x.0), two, above_end n list e h)

below : {V : Type 0} → ℕ → List (ℕ × V) → Bool
below n list = list_all (λ x. nat_lt x.0 n) list

rising_end : {V : Type 0} (list : List (ℕ × V)) (e : ℕ × V) → is_rising list ≡ true → below e.0 list ≡ true → is_rising (list ++ e ∷ []) ≡ true
unfolding is_rising below
rising_end [] e h k = refl
rising_end (x ∷ list) e h k = grind (arith, nat_tests, both, both (nat_lt x.0 e.0), two, above_end x.0 list e, rising_end list e)

-- all that is found in a list is below
all_below : {V : Type 0} (n : ℕ) (list : List (ℕ × V)) → is_rising list ≡ true → ((j : ℕ) (v : V) → lookup (nat_eq j) list ≡ Some v → j < n) → below n list ≡ true
unfolding is_rising below
all_below n [] h low = refl
all_below {V} n (x ∷ list) h low =
    let parts = both (above x.0 list) (is_rising list) h in
    let first = low x.0 x.1 (own x list) in
    two _ _ (grind (arith, nat_tests, first)) (all_below n list parts.1 (λ j v found.
    elim (either (nat_eq j x.0)) [
      | inl e ↦ let no_way : true ≡ false = not_none v (sym found ∙ ap (λ m. lookup (nat_eq m) list) (from_number j x.0 e) ∙ none_below x.0 list parts.0) in absurd (cc)
      | inr e ↦ low j v (pick_no _ _ _ e ∙ found)
    ]))

pub order_more : {V : Type 0} (old new : List (ℕ × V)) (n : ℕ) (v : V) → ((j : ℕ) (w : V) → lookup (nat_eq j) old ≡ Some w → j < n) → ((j : ℕ) → lookup (nat_eq j) new ≡ cond (nat_eq n j) (Some v) (lookup (nat_eq j) old)) → in_order new ≡ in_order old ++ (n, v) ∷ []
order_more {V} old new n v low is =
    one_list (in_order new) (in_order old ++ (n, v) ∷ []) (rising_order new)
    (rising_end (in_order old) (n, v) (rising_order old) (all_below n (in_order old) (rising_order old) (λ j w found. low j w (sym (at_order j old) ∙ found))))
    (λ j. at_order j new ∙ is j ∙ ap (λ o. cond (nat_eq n j) (Some v) o) (sym (at_order j old)) ∙ sym (at_end_of j (in_order old) (n, v) (at_order n old ∙ fresh (lookup (nat_eq n) old) refl)))
  where
    fresh : (o : Option V) → lookup (nat_eq n) old ≡ o → o ≡ None
    fresh None e = refl
    fresh (Some w) e = let less = low n w e in absurd (omega (arith, less))
