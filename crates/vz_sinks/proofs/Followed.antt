-- The sinks that a sink reaches, as they are followed one by one.
use Rattle.std.proofs.Common.{◌≡◌, ℕ, ◌+◌, ◌-◌, ◌≤◌, ◌<◌, Bool, true, false, ◌||◌, inl, inr, List, [], ◌∷◌, length, get_or, drop, map, filter, refl, ap, sym, ◌∙◌, arith, cond, subst}
use Rattle.std.specs.List.{list_any}
use Rattle.std.proofs.lemmas.List.{drop_more}
use Rattle.vz_ids.specs.declared.FrameSinkId.{FrameSinkId}
use Rattle.vz_ids.specs.Ids.{same_sink}
use Rattle.vz_rules.specs.Closure.{adding, closure, IsLeastClosed}
use Rattle.vz_rules.specs.Plan.{has_sink}
use Rattle.vz_rules.specs.Messages.{children, reaches}
use Rattle.vz_rules.proofs.Reached.{from_same_sink, self_same_sink, sinks_are_least}
use Rattle.vz_rules.proofs.Marking.{from_or, left_or, right_or, next_room, Marked, marked_first, marked_next, marked_room, marked_within, marked_all}

abbrev Relations : Type 0
Relations = List (FrameSinkId × FrameSinkId)

-- all that can be reached
abbrev pub all_of : List (FrameSinkId × FrameSinkId) → FrameSinkId → List FrameSinkId
all_of relations a = a ∷ map (λ (r : FrameSinkId × FrameSinkId). r.1) relations

-- there is room for the next child
pub room_for : (out rest whole : List FrameSinkId) (x : FrameSinkId) (total spare : ℕ) → adding same_sink out (x ∷ rest) ≡ whole → length whole ≤ total → total ≤ length out + spare
    → list_any (same_sink x) out ≡ false → 0 < spare
room_for out rest whole x total spare left few enough none =
    next_room same_sink from_same_sink self_same_sink out rest x spare (let long = ap length left in omega (arith, long, few, enough)) none

-- the next relation is followed
module _ (relations : List (FrameSinkId × FrameSinkId)) (i : ℕ) (d : FrameSinkId × FrameSinkId) (from : FrameSinkId) (out whole : List FrameSinkId) (inside : i < length relations)
    (left : adding same_sink out (children (drop i relations) from) ≡ whole) where
  by_test : (t : Bool) → same_sink (get_or relations i d).0 from ≡ t
      → adding same_sink out (map (λ (r : FrameSinkId × FrameSinkId). r.1) (cond t (get_or relations i d ∷ filter (λ r. same_sink r.0 from) (drop (i + 1) relations)) (filter (λ r. same_sink r.0 from) (drop (i + 1) relations)))) ≡ whole
  by_test t is =
      ap (λ s. adding same_sink out (map (λ (r : FrameSinkId × FrameSinkId). r.1) (cond s (get_or relations i d ∷ filter (λ r. same_sink r.0 from) (drop (i + 1) relations)) (filter (λ r. same_sink r.0 from) (drop (i + 1) relations))))) (sym is)
      ∙ ap (λ l. adding same_sink out (children l from)) (sym (drop_more relations i d inside)) ∙ left

  pub child_step : same_sink (get_or relations i d).0 from ≡ true → adding same_sink out ((get_or relations i d).1 ∷ children (drop (i + 1) relations) from) ≡ whole
  child_step is = by_test true is

  pub other_step : same_sink (get_or relations i d).0 from ≡ false → adding same_sink out (children (drop (i + 1) relations) from) ≡ whole
  other_step is = by_test false is

-- one of those that come is put in
pub grows : (out new rest whole : List FrameSinkId) (x : FrameSinkId) → adding same_sink out (x ∷ rest) ≡ whole → new ≡ adding same_sink out (x ∷ []) → adding same_sink new rest ≡ whole
grows out new rest whole x left is = ap (λ l. adding same_sink l rest) is ∙ left

-- what is next is a child
child_in : (relations : List (FrameSinkId × FrameSinkId)) (y x : FrameSinkId) → list_any (same_sink x) (children relations y) ≡ true → list_any (same_sink x) (map (λ (r : FrameSinkId × FrameSinkId). r.1) relations) ≡ true
child_in [] y x h = h
child_in (r ∷ relations) y x h =
    elim (same_sink r.0 y) as (λ (t : Bool). list_any (same_sink x) (map (λ (r : FrameSinkId × FrameSinkId). r.1) (cond t (r ∷ filter (λ r. same_sink r.0 y) relations) (filter (λ r. same_sink r.0 y) relations))) ≡ true
    → (same_sink x r.1 || list_any (same_sink x) (map (λ (r : FrameSinkId × FrameSinkId). r.1) relations)) ≡ true) [
      | true ↦ λ k. elim (from_or (same_sink x r.1) _ k) [ inl e ↦ left_or (same_sink x r.1) _ e | inr e ↦ right_or (same_sink x r.1) _ (child_in relations y x e) ]
      | false ↦ λ k. right_or (same_sink x r.1) _ (child_in relations y x k)
    ] h

next_inside : (relations : List (FrameSinkId × FrameSinkId)) (a y x : FrameSinkId) → list_any (same_sink x) (children relations y) ≡ true → list_any (same_sink x) (all_of relations a) ≡ true
next_inside relations a y x h = right_or (same_sink x a) _ (child_in relations y x h)

first_inside : (relations : List (FrameSinkId × FrameSinkId)) (a x : FrameSinkId) → list_any (same_sink x) (a ∷ []) ≡ true → list_any (same_sink x) (all_of relations a) ≡ true
first_inside relations a x h = elim (from_or (same_sink x a) false h) [ inl e ↦ left_or (same_sink x a) _ e | inr e ↦ absurd (cc) ]

length_map : {A B : Type 0} (f : A → B) (xs : List A) → length (map f xs) ≡ length xs
length_map f [] = refl
length_map f (x ∷ xs) = let rest = length_map f xs in omega (arith, rest)

-- what stands when those before a place have been followed
abbrev pub IsMarked : List (FrameSinkId × FrameSinkId) → FrameSinkId → List FrameSinkId → ℕ → ℕ → Type 0
IsMarked relations a xs at total = Marked same_sink from_same_sink self_same_sink (children relations) (a ∷ []) (all_of relations a) xs at total

module _ (relations : List (FrameSinkId × FrameSinkId)) (a : FrameSinkId) where
  pub first_marked : (xs : List FrameSinkId) (spare total : ℕ) → length relations < spare → spare ≤ total → xs ≡ a ∷ [] → IsMarked relations a xs 0 total
  first_marked xs spare total few enough is =
      let long = length_map (λ (r : FrameSinkId × FrameSinkId). r.1) relations in
      subst (λ l. IsMarked relations a l 0 total) (sym is)
      (marked_first same_sink from_same_sink self_same_sink (children relations) (a ∷ []) (all_of relations a) total (first_inside relations a) (omega (arith, few, enough, long)))

  -- what is next fits
  pub next_fits : (xs : List FrameSinkId) (at total : ℕ) (y : FrameSinkId) → IsMarked relations a xs at total → length (adding same_sink xs (children relations y)) ≤ total
  next_fits xs at total y m = marked_room same_sink from_same_sink self_same_sink (children relations) (a ∷ []) (all_of relations a) xs at total y m (next_inside relations a y)

  -- one is followed
  pub next_marked : (xs new slice : List FrameSinkId) (at total more : ℕ) (d : FrameSinkId) → IsMarked relations a xs at total → slice ≡ xs → at < length slice
      → new ≡ adding same_sink xs (children relations (get_or slice at d)) → total ≤ more → IsMarked relations a new (at + 1) more
  next_marked xs new slice at total more d m same_list before is longer =
      let within : at < length xs = omega (arith, before, ap length same_list) in
      let now : new ≡ adding same_sink xs (children relations (get_or xs at d)) = is ∙ ap (λ l. adding same_sink xs (children relations (get_or l at d))) same_list in
      subst (λ l. IsMarked relations a l (at + 1) more) (sym now)
      (marked_next same_sink from_same_sink self_same_sink (children relations) (a ∷ []) (all_of relations a) xs at total more (get_or xs at d) d m within refl (next_inside relations a (get_or xs at d)) longer)

  -- fewer are left
  pub fewer_left : (xs slice : List FrameSinkId) (at total : ℕ) → IsMarked relations a xs at total → slice ≡ xs → at < length slice
      → length (all_of relations a) - (at + 1) < length (all_of relations a) - at
  fewer_left xs slice at total m same_list before =
      let few = marked_within same_sink from_same_sink self_same_sink (children relations) (a ∷ []) (all_of relations a) xs at total m in
      let long = ap length same_list in
      omega (arith, few, long, before)

  same_truth : (p q : Bool) → (p ≡ true → q ≡ true) → (q ≡ true → p ≡ true) → p ≡ q
  same_truth true q f g = sym (f refl)
  same_truth false true f g = g refl
  same_truth false false f g = refl

  -- two least lists have the same
  both_least : (xs ys : List FrameSinkId) → IsLeastClosed same_sink (children relations) (a ∷ []) xs → IsLeastClosed same_sink (children relations) (a ∷ []) ys
      → (b : FrameSinkId) → has_sink xs b ≡ has_sink ys b
  both_least xs ys one two b = same_truth (has_sink xs b) (has_sink ys b) (one.least ys two.has_roots two.closed b) (two.least xs one.has_roots one.closed b)

  -- all are followed
  pub reached_is : (xs slice : List FrameSinkId) (at total : ℕ) → IsMarked relations a xs at total → slice ≡ xs → length slice ≤ at → (b : FrameSinkId) → has_sink xs b ≡ reaches relations a b
  unfolding reaches
  reached_is xs slice at total m same_list over b =
      both_least xs (closure same_sink (children relations) (length relations) (a ∷ []))
      (marked_all same_sink from_same_sink self_same_sink (children relations) (a ∷ []) (all_of relations a) xs at total m (omega (arith, over, ap length same_list)))
      (sinks_are_least relations a) b
