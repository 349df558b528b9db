-- Submissions are released by rising numbers.
use Rattle.std.proofs.Common.{◌≡◌, ℕ, ◌+◌, ◌≤◌, ◌<◌, Bool, true, false, not, cond, nat_lt, nat_le, nat_eq, Option, Some, None, suc, List, [], ◌∷◌, ◌++◌, length, filter, map, drop, get_or, refl, ap, sym, inl, inr, ◌∙◌, arith, option_to_list, slice_index_or}
use Rattle.std.specs.List.{list_all}
use Rattle.std.specs.List.Sorted.{IsNonDecreasing}
use Rattle.std.specs.Map.{lookup}
use Rattle.std.proofs.lemmas.List.{drop_more, drop_all, append-nil}
use Rattle.std.proofs.lemmas.Bool.Decides.{nat_tests}
use Rattle.vz_ids.specs.declared.Sub.{Sub}
use Rattle.vz_ids.specs.Ids.{same_sub}
use Rattle.vz_deps.specs.Lacking.{is_in}
use Rattle.vz_deps.specs.Ordered.{in_order, is_rising, never_falls}
use Rattle.vz_deps.specs.Numbering.{IsNumbered}
use Rattle.vz_deps.proofs.Same.{both, two, either, pick_yes, pick_no, some_same, none_some, yes_no, from_number, own_number}
use Rattle.vz_deps.proofs.Keeping.{joined_length}
use Rattle.vz_deps.proofs.Orders.{above, none_below, above_less, keep_at, order_filter, rising_order, at_order}

pub from_sub : (a b : Sub) → same_sub a b ≡ true → a ≡ b
from_sub a b h = grind (arith, nat_tests, both, from_number a.client b.client, from_number a.ordinal b.ordinal)

pub own_sub : (a : Sub) → same_sub a a ≡ true
own_sub a = two _ _ (own_number a.client) (own_number a.ordinal)

-- A number is given up

pub numbered_less : (subs less : List (ℕ × Sub)) (numbers fewer : List (Sub × ℕ)) (o : ℕ) (s : Sub) → IsNumbered subs numbers → lookup (nat_eq o) subs ≡ Some s
    → ((q : ℕ) → lookup (nat_eq q) less ≡ cond (nat_eq o q) None (lookup (nat_eq q) subs)) → ((t : Sub) → lookup (same_sub t) fewer ≡ cond (same_sub s t) None (lookup (same_sub t) numbers)) → IsNumbered less fewer
numbered_less subs less numbers fewer o s is found by_number by_sub = grind (arith, nat_tests, either, none_some, pick_yes, pick_no, some_same, from_number, yes_no, own_sub, from_sub, own_number)

-- Numbers that do not fall

pub not_in_later : (q o : ℕ) (rest : List ℕ) → list_all (λ m. nat_le o m) rest ≡ true → nat_lt q o ≡ true → is_in q rest ≡ false
unfolding is_in
not_in_later q o [] h less = refl
not_in_later q o (m ∷ rest) h less = grind (arith, nat_tests, both (nat_le o m) (list_all (λ m. nat_le o m) rest) h, not_in_later q o rest)

no_less : (n : ℕ) (xs : List ℕ) → ((j d : ℕ) → j < length xs → n ≤ slice_index_or xs j d) → list_all (λ m. nat_le n m) xs ≡ true
no_less n [] h = refl
no_less n (x ∷ xs) h =
    let first : n ≤ x = h 0 0 (omega arith) in
    two _ _ (grind (arith, nat_tests, first)) (no_less n xs (λ j d low. h (suc j) d (omega (arith, low))))

pub sorted_never_falls : (xs : List ℕ) → IsNonDecreasing xs → never_falls xs ≡ true
unfolding never_falls
sorted_never_falls [] h = refl
sorted_never_falls (x ∷ xs) h =
    two _ _ (no_less x xs (λ j d low. h 0 (suc j) d (omega arith) (omega (arith, low))))
    (sorted_never_falls xs (λ i j d first low. h (suc i) (suc j) d (omega (arith, first)) (omega (arith, low))))

-- The first number's submission is the first of them

module _ {V : Type 0} (o : ℕ) (rest : List ℕ) (least : list_all (λ m. nat_le o m) rest ≡ true) where
  -- of those that are in the rest, and not the first one
  abbrev others : List (ℕ × V) → List (ℕ × V)
  others list = filter (λ e. is_in e.0 rest) (filter (λ e. not (nat_eq o e.0)) list)

  abbrev these : List (ℕ × V) → List (ℕ × V)
  these list = filter (λ e. is_in e.0 (o ∷ rest)) list

  above_same : (list : List (ℕ × V)) → above o list ≡ true → these list ≡ others list
  unfolding is_in
  above_same [] h = refl
  above_same (e ∷ list) h = grind (arith, nat_tests, both (nat_lt o e.0) (above o list) h, above o list, above_same list)

  abbrev values : List (ℕ × V) → List V
  values list = map (λ e. e.1) list

  here : (e : ℕ × V) (list : List (ℕ × V)) → nat_eq o e.0 ≡ true → these list ≡ others list → values (these (e ∷ list)) ≡ option_to_list (lookup (nat_eq o) (e ∷ list)) ++ values (others (e ∷ list))
  unfolding is_in
  here e list k same = grind (arith, nat_tests)

  before : (e : ℕ × V) (list : List (ℕ × V)) → nat_eq o e.0 ≡ false → is_in e.0 rest ≡ false → values (these list) ≡ option_to_list (lookup (nat_eq o) list) ++ values (others list)
      → values (these (e ∷ list)) ≡ option_to_list (lookup (nat_eq o) (e ∷ list)) ++ values (others (e ∷ list))
  unfolding is_in
  before e list k none same = grind (arith, nat_tests)

  first_is : (list : List (ℕ × V)) → is_rising list ≡ true → values (these list) ≡ option_to_list (lookup (nat_eq o) list) ++ values (others list)
  unfolding is_rising
  first_is [] h = refl
  first_is (e ∷ list) h =
      let parts = both (above e.0 list) (is_rising list) h in
      elim (either (nat_eq o e.0)) [
        | inl k ↦
            let at : o ≡ e.0 = from_number o e.0 k in
            let rest_same = above_same list (ap (λ n. above n list) at ∙ parts.0) in
            here e list k rest_same
        | inr k ↦ elim (either (nat_lt e.0 o)) [
          | inl l ↦ before e list k (not_in_later e.0 o rest least l) (first_is list parts.1)
          | inr l ↦
              let more : nat_lt o e.0 ≡ true = grind (arith, nat_tests, k, l) in
              let later : above o (e ∷ list) ≡ true = two _ _ more (above_less o e.0 list more parts.0) in
              ap values (above_same (e ∷ list) later) ∙ ap (λ v. option_to_list v ++ values (others (e ∷ list))) (sym (none_below o (e ∷ list) later))
        ]
      ]

-- One step of the walk over the numbers

module _ (F : List ℕ) (k d : ℕ) (inside : k < length F) (up : never_falls (drop k F) ≡ true) where
  abbrev number : ℕ
  number = get_or F k d

  abbrev later : List ℕ
  later = drop (k + 1) F

  split : drop k F ≡ number ∷ later
  split = drop_more F k d inside

  up_parts : (list_all (λ m. nat_le number m) later ≡ true) × (never_falls later ≡ true)
  unfolding never_falls
  up_parts = both (list_all (λ m. nat_le number m) later) (never_falls later) (sym (ap never_falls split) ∙ up)

  pub up_next : never_falls later ≡ true
  up_next = up_parts.1

  -- which are left, of a map
  pub left_next : {V : Type 0} (q : ℕ) (old now new : Option V) → cond (is_in q (drop k F)) None now ≡ old → new ≡ cond (nat_eq number q) None now → cond (is_in q later) None new ≡ old
  unfolding is_in
  left_next {V} q old now new was is = grind (arith, nat_tests, split)

  kept_by : (t : Bool) (o : Option Sub) (q : ℕ) → nat_eq number q ≡ t → cond t None o ≡ keep_at (λ (e : ℕ × Sub). not (nat_eq number e.0)) q o
  unfolding keep_at
  kept_by true None q e = refl
  kept_by false None q e = refl
  kept_by true (Some v) q e = sym (ap (λ t. cond (not t) (Some v) None) e)
  kept_by false (Some v) q e = sym (ap (λ t. cond (not t) (Some v) None) e)

  -- what is still to come out
  pub out_next : (subs less : List (ℕ × Sub)) → ((q : ℕ) → lookup (nat_eq q) less ≡ cond (nat_eq number q) None (lookup (nat_eq q) subs))
      → map (λ e. e.1) (filter (λ e. is_in e.0 (drop k F)) (in_order subs)) ≡ option_to_list (lookup (nat_eq number) subs) ++ map (λ e. e.1) (filter (λ e. is_in e.0 later) (in_order less))
  out_next subs less is =
      ap (λ l. map (λ (e : ℕ × Sub). e.1) (filter (λ e. is_in e.0 l) (in_order subs))) split ∙ first_is number later up_parts.0 (in_order subs) (rising_order subs)
      ∙ (λ i. option_to_list (at_order number subs i) ++ map (λ e. e.1) (filter (λ e. is_in e.0 later) (sym (order_filter (λ (e : ℕ × Sub). not (nat_eq number e.0)) subs less (λ q. is q ∙ kept_by (nat_eq number q) (lookup (nat_eq q) subs) q refl)) i)))

  pub first_length : (subs : List (ℕ × Sub)) → length (option_to_list (lookup (nat_eq number) subs)) ≤ length (map (λ e. e.1) (filter (λ e. is_in e.0 (drop k F)) (in_order subs)))
  first_length subs =
      let is = ap length (ap (λ l. map (λ (e : ℕ × Sub). e.1) (filter (λ e. is_in e.0 l) (in_order subs))) split ∙ first_is number later up_parts.0 (in_order subs) (rising_order subs)) in
      let two = joined_length (option_to_list (lookup (nat_eq number) (in_order subs))) (map (λ (e : ℕ × Sub). e.1) (filter (λ e. is_in e.0 later) (filter (λ e. not (nat_eq number e.0)) (in_order subs)))) in
      let same = ap (λ o. length (option_to_list o)) (at_order number subs) in
      omega (arith, is, two, same)

-- The end of the walk

pub left_end : {V : Type 0} (F : List ℕ) (k q : ℕ) (old now : Option V) → length F ≤ k → cond (is_in q (drop k F)) None now ≡ old → now ≡ old
unfolding is_in
left_end F k q old now over was = sym (ap (λ l. cond (is_in q l) None now) (drop_all k F over)) ∙ was

none_out : (list : List (ℕ × Sub)) → filter (λ e. is_in e.0 []) list ≡ []
unfolding is_in
none_out [] = refl
none_out (e ∷ list) = none_out list

pub out_end : (F : List ℕ) (k : ℕ) (out all : List Sub) (list : List (ℕ × Sub)) → length F ≤ k → out ++ map (λ e. e.1) (filter (λ e. is_in e.0 (drop k F)) list) ≡ all → out ≡ all
out_end F k out all list over was =
    sym (ap (λ l. out ++ map (λ (e : ℕ × Sub). e.1) (filter (λ e. is_in e.0 l) list)) (drop_all k F over) ∙ ap (λ l. out ++ map (λ (e : ℕ × Sub). e.1) l) (none_out list) ∙ append-nil out) ∙ was

-- Room

part_length : (p : ℕ × Sub → Bool) (list : List (ℕ × Sub)) → length (map (λ e. e.1) (filter p list)) ≤ length list
part_length p [] = omega arith
part_length p (e ∷ list) = grind (arith, nat_tests, part_length p list)

pub room_left : (p : ℕ × Sub → Bool) (all : List (ℕ × Sub)) (out first rest : List Sub) (spare room n : ℕ) → out ++ rest ≡ first ++ map (λ e. e.1) (filter p all) → room + length out ≡ spare + length first → length all ≤ spare → n ≤ length rest → n ≤ room
room_left p all out first rest spare room n is total fits low = grind (arith, nat_tests, joined_length out rest, joined_length first, part_length p all)
