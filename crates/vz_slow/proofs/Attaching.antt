-- The sinks that a sink reaches, as they are followed one by one, among few.
use Rattle.std.proofs.Common.{◌≡◌, ℕ, ◌+◌, ◌-◌, ◌≤◌, ◌<◌, Bool, true, false, inl, inr, List, [], ◌∷◌, length, get_or, drop, map, filter, refl, ap, sym, ◌∙◌, arith, cond, subst}
use Rattle.std.specs.List.{list_any}
use Rattle.std.proofs.lemmas.List.{drop_more}
use Rattle.vz_ids.specs.declared.FrameSinkId.{FrameSinkId}
use Rattle.vz_ids.specs.Ids.{same_sink}
use Rattle.vz_rules.specs.Closure.{adding, closure, IsLeastClosed}
use Rattle.vz_rules.specs.Plan.{has_sink}
use Rattle.vz_rules.specs.Messages.{children, reaches}
use Rattle.vz_rules.proofs.Members.{any_at, contains_map, filter_at}
use Rattle.vz_rules.proofs.Reached.{from_same_sink, self_same_sink, sinks_are_least}
use Rattle.vz_rules.proofs.Marking.{from_or, next_room, Marked, marked_first, marked_next, marked_room, marked_within, marked_all}
use Rattle.vz_slow.specs.Asked.{AreFew}

-- there is room for the next child
pub room_for : (out rest whole : List FrameSinkId) (x : FrameSinkId) → adding same_sink out (x ∷ rest) ≡ whole → length whole ≤ 16
    → list_any (same_sink x) out ≡ false → length out < 16
room_for out rest whole x left few none =
    let long = ap length left in
    within (next_room same_sink from_same_sink self_same_sink out rest x (16 - length out) (enough long) none)
  where
    enough : length (adding same_sink out (x ∷ rest)) ≡ length whole → length (adding same_sink out (x ∷ rest)) ≤ length out + (16 - length out)
    enough long = omega (arith, long, few)

    within : 0 < 16 - length out → length out < 16
    within some = omega (arith, some)

-- the next relation is followed
module _ (relations : List (FrameSinkId × FrameSinkId)) (i : ℕ) (d : FrameSinkId × FrameSinkId) (from : FrameSinkId) (out whole : List FrameSinkId) (inside : i < length relations)
    (left : adding same_sink out (children (drop i relations) from) ≡ whole) where
  by_test : (t : Bool) → same_sink (get_or relations i d).0 from ≡ t
      → adding same_sink out (map (λ (r : FrameSinkId × FrameSinkId). r.1) (cond t (get_or relations i d ∷ filter (λ r. same_sink r.0 from) (drop (i + 1) relations)) (filter (λ r. same_sink r.0 from) (drop (i + 1) relations)))) ≡ whole
  by_test t is =
      ap (λ s. adding same_sink out (map (λ (r : FrameSinkId × FrameSinkId). r.1) (cond s (get_or relations i d ∷ filter (λ r. same_sink r.0 from) (drop (i + 1) relations)) (filter (λ r. same_sink r.0 from) (drop (i + 1) relations))))) (sym is)
      ∙ ap (λ l. adding same_sink out (children l from)) (sym (drop_more relations i d inside)) ∙ left

  pub child_step : same_sink (get_or relations i d).0 from ≡ true → adding same_sink out ((get_or relations i d).1 ∷ children (drop (i + 1) relations) from) ≡ whole
  child_step is = by_test true is

  pub other_step : same_sink (get_or relations i d).0 from ≡ false → adding same_sink out (children (drop (i + 1) relations) from) ≡ whole
  other_step is = by_test false is

-- what is next is among the few
child_in : (relations : List (FrameSinkId × FrameSinkId)) (from : FrameSinkId) (few : AreFew relations from) (y x : FrameSinkId)
    → list_any (same_sink x) (children relations y) ≡ true → list_any (same_sink x) few.all ≡ true
child_in relations from few y x h =
    let child = any_at (same_sink x) (children relations y) h in
    let one = contains_map (λ (r : FrameSinkId × FrameSinkId). r.1) (filter (λ r. same_sink r.0 y) relations) child.0 child.1 in
    let same : x ≡ one.0.1 = from_same_sink x child.0 child.2 ∙ sym one.2 in
    ap (has_sink few.all) same ∙ few.children one.0 (filter_at (λ r. same_sink r.0 y) relations one.0 one.1).0

-- and so is the first
first_in : (relations : List (FrameSinkId × FrameSinkId)) (from : FrameSinkId) (few : AreFew relations from) (x : FrameSinkId)
    → list_any (same_sink x) (from ∷ []) ≡ true → list_any (same_sink x) few.all ≡ true
first_in relations from few x h =
    elim (from_or (same_sink x from) false h) [ inl e ↦ ap (has_sink few.all) (from_same_sink x from e) ∙ few.first | inr e ↦ absurd (cc) ]

same_truth : (p q : Bool) → (p ≡ true → q ≡ true) → (q ≡ true → p ≡ true) → p ≡ q
same_truth true q f g = sym (f refl)
same_truth false true f g = g refl
same_truth false false f g = refl

module _ (relations : List (FrameSinkId × FrameSinkId)) (from : FrameSinkId) (few : AreFew relations from) where
  -- what stands when those before a place have been followed
  abbrev pub IsMarked : List FrameSinkId → ℕ → Type 0
  IsMarked xs at = Marked same_sink from_same_sink self_same_sink (children relations) (from ∷ []) few.all xs at 16

  pub first_marked : (xs : List FrameSinkId) → xs ≡ from ∷ [] → IsMarked xs 0
  first_marked xs is =
      subst (λ l. IsMarked l 0) (sym is)
      (marked_first same_sink from_same_sink self_same_sink (children relations) (from ∷ []) few.all 16 (first_in relations from few) few.few)

  -- what is next fits
  pub next_fits : (xs : List FrameSinkId) (at : ℕ) (y : FrameSinkId) → IsMarked xs at → length (adding same_sink xs (children relations y)) ≤ 16
  next_fits xs at y m = marked_room same_sink from_same_sink self_same_sink (children relations) (from ∷ []) few.all xs at 16 y m (child_in relations from few y)

  -- one is followed
  pub next_marked : (xs new slice : List FrameSinkId) (at : ℕ) (d : FrameSinkId) → IsMarked xs at → slice ≡ xs → at < length slice
      → new ≡ adding same_sink xs (children relations (get_or slice at d)) → IsMarked new (at + 1)
  next_marked xs new slice at d m same_list before is =
      let y : FrameSinkId = get_or slice at d in
      let within : at < length xs = omega (arith, before, ap length same_list) in
      subst (λ l. IsMarked l (at + 1)) (sym is)
      (marked_next same_sink from_same_sink self_same_sink (children relations) (from ∷ []) few.all xs at 16 16 y d m within (ap (λ l. get_or l at d) same_list) (child_in relations from few y) (omega arith))

  -- fewer are left
  pub fewer_left : (xs : List FrameSinkId) (at : ℕ) → IsMarked xs at → at < length xs → 16 - (at + 1) < 16 - at
  fewer_left xs at m before =
      let some = marked_within same_sink from_same_sink self_same_sink (children relations) (from ∷ []) few.all xs at 16 m in
      let most = few.few in
      omega (arith, some, most, before)

  -- two least lists have the same
  both_least : (xs ys : List FrameSinkId) → IsLeastClosed same_sink (children relations) (from ∷ []) xs → IsLeastClosed same_sink (children relations) (from ∷ []) ys
      → (b : FrameSinkId) → has_sink xs b ≡ has_sink ys b
  both_least xs ys one two b = same_truth (has_sink xs b) (has_sink ys b) (one.least ys two.has_roots two.closed b) (two.least xs one.has_roots one.closed b)

  -- all are followed
  pub reached_is : (xs : List FrameSinkId) (at : ℕ) → IsMarked xs at → length xs ≤ at → (b : FrameSinkId) → has_sink xs b ≡ reaches relations from b
  unfolding reaches
  reached_is xs at m over b =
      both_least xs (closure same_sink (children relations) (length relations) (from ∷ []))
      (marked_all same_sink from_same_sink self_same_sink (children relations) (from ∷ []) few.all xs at 16 m over)
      (sinks_are_least relations from) b
