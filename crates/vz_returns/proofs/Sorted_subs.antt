-- The submissions that have places, by client and ordinal: which they are, how many, and what one more and one fewer
-- makes of them.
use Rattle.std.proofs.Common.{◌≡◌, ℕ, zero, suc, ◌+◌, Bool, true, false, not, ◌&&◌, ◌||◌, ◌==◌, nat_lt, Option, Some, None, is_some, List, [], ◌∷◌, ◌++◌, length, insert, take, drop, get_or, refl, ap, sym, subst, ◌∙◌, arith, cond, IsPermutation, Less, Equal, Greater}
use Rattle.std.specs.{List.list_all, List.IsDistinct, List.AllByRecursion, List.Sorted.IsSorted, List.Sorted.IsSortedBy, Map.lookup, Map.keys_of}
use Rattle.std.specs.Ordering.{is_lt, nat_cmp, ordering_then}
use Rattle.std.proofs.{lemmas.Bool.Decides.nat_tests, lemmas.Map.Keys.IsDistinct-IsPermutation, lemmas.List.Sorted.list_any-IsPermutation}
use Rattle.std.proofs.{lemmas.List.take-append-drop, Math.Seq.take-append_seam, Math.Seq.drop-append_seam}
use Rattle.vz_ids.specs.{declared.Sub.Sub, Ids.same_sub}
use Rattle.vz_returns.specs.Unfed.{before, in_order, is_open, place_in, opened, fed, sorted_subs}
use Rattle.vz_returns.proofs.Kept.{both, two_true, two_false, all_over, or_after, from_same_sub, opened_has, fed_has, opened_in_order, fed_in_order}
use Rattle.vz_returns.proofs.Owes.{either, same_self, yes_no}

-- Lists in their order

pub insert_length : (list : List Sub) (n : ℕ) (s : Sub) → length (insert list n s) ≡ length list + 1
insert_length [] zero s = refl
insert_length [] (suc n) s = refl
insert_length (x ∷ list) zero s = omega arith
insert_length (x ∷ list) (suc n) s = let rest = insert_length list n s in omega (arith, rest)

pub none_behind : (x : Sub) (list : List Sub) → list_all (before x) list ≡ true → is_open list x ≡ false
none_behind x [] h = refl
none_behind x (y ∷ list) h = grind (arith, nat_tests, both (before x y) (list_all (before x) list) h, none_behind x list)

-- where it is not open nothing is taken out
pub none_left : (list : List Sub) (s : Sub) → is_open list s ≡ false → fed s list ≡ list
none_left [] s h = refl
none_left (x ∷ list) s h = grind (arith, nat_tests, two_false (same_sub x s) (is_open list s) h, none_left list s)

pub none_in_order : in_order [] ≡ true
unfolding in_order
none_in_order = refl

-- two lists in their order with the same submissions are one
not_open : (x y : Sub) (ys : List Sub) → list_all (before y) ys ≡ true → before x y ≡ true → is_open (y ∷ ys) x ≡ false
not_open x y ys h less = none_behind x (y ∷ ys) (two_true _ _ less (all_over x y ys less h))

open_here : (x : Sub) (xs : List Sub) → is_open (x ∷ xs) x ≡ true
open_here x xs = ap (λ t. t || is_open xs x) (same_self x)

first_same : (x y : Sub) (xs ys : List Sub) → list_all (before x) xs ≡ true → list_all (before y) ys ≡ true
    → ((t : Sub) → is_open (x ∷ xs) t ≡ is_open (y ∷ ys) t) → x ≡ y
first_same x y xs ys h k same = grind (arith, nat_tests, yes_no, open_here, not_open, either, from_same_sub, or_after)

rest_same : (x : Sub) (xs ys : List Sub) → list_all (before x) xs ≡ true → list_all (before x) ys ≡ true
    → ((t : Sub) → is_open (x ∷ xs) t ≡ is_open (x ∷ ys) t) → (t : Sub) → is_open xs t ≡ is_open ys t
rest_same x xs ys h k same t = grind (arith, nat_tests, from_same_sub x t, none_behind x xs h, none_behind x ys k)

pub one_list : (xs ys : List Sub) → in_order xs ≡ true → in_order ys ≡ true → ((t : Sub) → is_open xs t ≡ is_open ys t) → xs ≡ ys
unfolding in_order
one_list [] [] h k same = refl
one_list [] (y ∷ ys) h k same = let no_way = yes_no (is_open (y ∷ ys) y) (open_here y ys) (sym (same y)) in absurd (cc)
one_list (x ∷ xs) [] h k same = let no_way = yes_no (is_open (x ∷ xs) x) (open_here x xs) (same x) in absurd (cc)
one_list (x ∷ xs) (y ∷ ys) h k same =
    grind (arith, nat_tests, both (list_all (before x) xs) (in_order xs) h, both (list_all (before y) ys) (in_order ys) k, first_same x y xs ys, one_list xs ys, rest_same x xs ys)

-- Those that have places

flips : (a b : Sub) → same_sub a b ≡ same_sub b a
flips a b = grind (arith, nat_tests)

-- what one more and one fewer change in a map, they change in a list

pub told_some : (a b : Bool) (m : ℕ) (o : Option ℕ) (v : Option ℕ) → v ≡ cond a (Some m) o → b ≡ is_some o → (a || b) ≡ is_some v
told_some true b m o v e h = ap is_some (sym e)
told_some false b m o v e h = h ∙ ap is_some (sym e)

pub told_none : (a b : Bool) (o : Option ℕ) (v : Option ℕ) → v ≡ cond a None o → b ≡ is_some o → (not a && b) ≡ is_some v
told_none true b o v e h = ap is_some (sym e)
told_none false b o v e h = h ∙ ap is_some (sym e)

has_by : (list : List Sub) (x : Sub) (n : ℕ) (o : Option ℕ) (t : Sub) (b : Bool) → is_open list x ≡ b → is_open list t ≡ is_some o
    → is_open (cond b list (opened x list)) t ≡ is_some (cond (same_sub t x) (Some n) o)
has_by list x n o t true e h = grind (arith, nat_tests, from_same_sub t x)
has_by list x n o t false e h = opened_has list x t ∙ ap (λ b. b || is_open list t) (flips x t) ∙ told_some (same_sub t x) (is_open list t) n o _ refl h

pub sorted_has : (places : List (Sub × ℕ)) (t : Sub) → is_open (sorted_subs places) t ≡ is_some (lookup (same_sub t) places)
unfolding sorted_subs
sorted_has [] t = refl
sorted_has (e ∷ places) t = has_by (sorted_subs places) e.0 e.1 (lookup (same_sub t) places) t (is_open (sorted_subs places) e.0) refl (sorted_has places t)

order_by : (list : List Sub) (x : Sub) (b : Bool) → is_open list x ≡ b → in_order list ≡ true → in_order (cond b list (opened x list)) ≡ true
order_by list x true e h = h
order_by list x false e h = opened_in_order list x h e

sorted_in_order : (places : List (Sub × ℕ)) → in_order (sorted_subs places) ≡ true
unfolding sorted_subs
sorted_in_order [] = none_in_order
sorted_in_order (e ∷ places) = order_by (sorted_subs places) e.0 (is_open (sorted_subs places) e.0) refl (sorted_in_order places)

-- one that is not among them has no place
pub none_there : (s : Sub) (places : List (Sub × ℕ)) → is_open (sorted_subs places) s ≡ false → lookup (same_sub s) places ≡ None
none_there s places h = none (lookup (same_sub s) places) (sym (sorted_has places s) ∙ h)
  where
    none : (o : Option ℕ) → is_some o ≡ false → o ≡ None
    none None e = refl
    none (Some n) e = absurd (cc)

-- without places there are none
pub none_sorted : sorted_subs [] ≡ []
unfolding sorted_subs
none_sorted = refl

-- one more
pub opened_is : (s : Sub) (n : ℕ) (old new : List (Sub × ℕ)) → lookup (same_sub s) old ≡ None
    → ((t : Sub) → lookup (same_sub t) new ≡ cond (same_sub s t) (Some n) (lookup (same_sub t) old))
    → sorted_subs new ≡ opened s (sorted_subs old)
opened_is s n old new none others =
    one_list (sorted_subs new) (opened s (sorted_subs old)) (sorted_in_order new)
    (opened_in_order (sorted_subs old) s (sorted_in_order old) (sorted_has old s ∙ ap is_some none))
    (λ t. sorted_has new t
    ∙ sym (told_some (same_sub s t) (is_open (sorted_subs old) t) n (lookup (same_sub t) old) (lookup (same_sub t) new) (others t) (sorted_has old t))
    ∙ sym (opened_has (sorted_subs old) s t))

-- one fewer
pub fed_is : (s : Sub) (old new : List (Sub × ℕ)) → ((t : Sub) → lookup (same_sub t) new ≡ cond (same_sub s t) None (lookup (same_sub t) old))
    → sorted_subs new ≡ fed s (sorted_subs old)
fed_is s old new others =
    one_list (sorted_subs new) (fed s (sorted_subs old)) (sorted_in_order new) (fed_in_order (sorted_subs old) s (sorted_in_order old))
    (λ t. sorted_has new t
    ∙ sym (told_none (same_sub s t) (is_open (sorted_subs old) t) (lookup (same_sub t) old) (lookup (same_sub t) new) (others t) (sorted_has old t))
    ∙ sym (fed_has (sorted_subs old) s t))

-- As many as places

absent : (s : Sub) (places : List (Sub × ℕ)) → AllByRecursion (λ y. same_sub s y ≡ false) (keys_of places) → lookup (same_sub s) places ≡ None
absent s [] h = refl
absent s (e ∷ places) h = ap (λ t. cond t (Some e.1) (lookup (same_sub s) places)) h.0 ∙ absent s places h.1

length_by : (list : List Sub) (x : Sub) (b : Bool) → is_open list x ≡ b → b ≡ false → length (cond b list (opened x list)) ≡ length list + 1
length_by list x true e h = absurd (cc)
length_by list x false e h = insert_length list (place_in list x) x

pub sorted_length : (places : List (Sub × ℕ)) → IsDistinct same_sub (keys_of places) → length (sorted_subs places) ≡ length places
unfolding sorted_subs IsDistinct
sorted_length [] h = refl
sorted_length (e ∷ places) h =
    let more = length_by (sorted_subs places) e.0 (is_open (sorted_subs places) e.0) refl (sorted_has places e.0 ∙ ap is_some (absent e.0 places h.0)) in
    let rest = sorted_length places h.1 in
    omega (arith, more, rest)

-- The names of a map, sorted

comes_first : (a b : Sub) → is_lt (ordering_then (nat_cmp a.client b.client) (nat_cmp a.ordinal b.ordinal)) ≡ before a b
comes_first a b = by (nat_lt a.client b.client) (a.client == b.client) (nat_lt a.ordinal b.ordinal) (a.ordinal == b.ordinal)
  where
    by : (p q r t : Bool) → is_lt (ordering_then (cond p Less (cond q Equal Greater)) (cond r Less (cond t Equal Greater))) ≡ (p || (q && r))
    by true q r t = refl
    by false true true t = refl
    by false true false true = refl
    by false true false false = refl
    by false false r t = refl

-- the derived order of names is that of clients and ordinals
pub by_client : (names : List Sub) → IsSorted (λ a b. ordering_then (nat_cmp a.client b.client) (nat_cmp a.ordinal b.ordinal)) names → IsSortedBy before names
by_client names up k d low high = sym (comes_first (get_or names (k + 1) d) (get_or names k d)) ∙ up k d low high

next_place : (k : ℕ) → suc (k + 1) ≡ suc k + 1
next_place k = omega arith

-- names that do not fall and differ are in order
never_fall : (names : List Sub) → IsSortedBy before names → IsDistinct same_sub names → in_order names ≡ true
unfolding in_order IsDistinct
never_fall [] up d = refl
never_fall (x ∷ []) up d = refl
never_fall (x ∷ y ∷ names) up d =
    let rest = never_fall (y ∷ names) (λ k e low high.
    ap (λ m. before (get_or (x ∷ y ∷ names) m e) (get_or (y ∷ names) k e)) (next_place k) ∙ up (suc k) e (omega arith) (omega (arith, high))) d.1 in
    let first : before x y ≡ true = or_after y x (up 0 x (omega arith) (omega arith)) (flips y x ∙ d.0.0) in
    two_true _ _ (two_true _ _ first (all_over x y names first (both (list_all (before y) names) (in_order names) rest).0)) rest

keys_have : (places : List (Sub × ℕ)) (t : Sub) → is_open (keys_of places) t ≡ is_some (lookup (same_sub t) places)
keys_have [] t = refl
keys_have (e ∷ places) t = grind (arith, nat_tests, flips e.0 t, keys_have places t)

-- they are the submissions that have places
sorted_is : (places : List (Sub × ℕ)) (names : List Sub) → IsDistinct same_sub (keys_of places) → IsPermutation (keys_of places) names → IsSortedBy before names
    → names ≡ sorted_subs places
sorted_is places names once same up =
    one_list names (sorted_subs places) (never_fall names up (IsDistinct-IsPermutation same_sub flips (keys_of places) names same once)) (sorted_in_order places)
    (λ t. sym (list_any-IsPermutation (λ x. same_sub x t) (keys_of places) names same) ∙ keys_have places t ∙ sym (sorted_has places t))

-- a list to which they were put, and sorted from there on
pub put_sorted : (places : List (Sub × ℕ)) (old put new : List Sub) (n : ℕ) → n ≡ length old → put ≡ old ++ keys_of places
    → IsDistinct same_sub (keys_of places) → take n new ≡ take n put → IsPermutation (drop n put) (drop n new) → IsSortedBy before (drop n new)
    → new ≡ old ++ sorted_subs places
put_sorted places old put new n at is once front same up =
    let first : take n new ≡ old = front ∙ (λ i. take (at i) (is i)) ∙ take-append_seam old (keys_of places) in
    let last : drop n put ≡ keys_of places = (λ i. drop (at i) (is i)) ∙ drop-append_seam old (keys_of places) in
    let sorted = sorted_is places (drop n new) once (subst (λ l. IsPermutation l (drop n new)) last same) up in
    sym (take-append-drop n new) ∙ (λ i. first i ++ sorted i)
