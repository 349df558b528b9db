-- What is kept of the lacks where a submission is blocked, and where it is forgotten.
use Rattle.std.proofs.Common.{◌≡◌, ℕ, ◌+◌, ◌≤◌, ◌<◌, Bool, true, false, ◌==◌, ◌&&◌, cond, nat_lt, nat_eq, Option, Some, None, zero, suc, List, [], ◌∷◌, ◌++◌, length, take, slice_get, refl, ap, sym, inl, inr, ◌∙◌, arith, vec_capacity, option_to_list}
use Rattle.std.specs.Map.{lookup}
use Rattle.std.proofs.lemmas.Bool.Decides.{nat_tests}
use Rattle.indexmap.specs.IndexMap.{insert_entry}
use Rattle.vz_ids.specs.declared.SurfaceId.{SurfaceId}
use Rattle.vz_deps.specs.declared.bunches.Lack.{Lack}
use Rattle.vz_deps.specs.declared.lacks.Count.{Count}
use Rattle.vz_deps.specs.declared.lacks.Lacks.{Lacks}
use Rattle.vz_deps.specs.Bunching.{Stands}
use Rattle.vz_deps.specs.Placing.{IsPlaced, IsListed}
use Rattle.vz_deps.specs.Lacking.{on_in, count_in, bunches_for, is_done, is_in, unready, lacks_of, whole, IsKept}
use Rattle.vz_deps.proofs.Same.{either, pick_yes, pick_no, some_same, none_some, from_number}
use Rattle.vz_deps.proofs.Keeping.{nobody}

pub placed_of : (a : Lacks) → IsKept a → IsPlaced a.on.entries a.groups a.sinks
placed_of a kept = record { groups_stand = kept.stands false; sinks_stand = kept.stands true; in_groups = kept.listed false; in_sinks = kept.listed true }

stand_by : (b : Lacks) → IsPlaced b.on.entries b.groups b.sinks → (w : Bool) → Stands (bunches_for w b)
stand_by b placed false = placed.groups_stand
stand_by b placed true = placed.sinks_stand

listed_by : (b : Lacks) → IsPlaced b.on.entries b.groups b.sinks → (w : Bool) → IsListed w b.on.entries (bunches_for w b)
listed_by b placed false = placed.in_groups
listed_by b placed true = placed.in_sinks

-- Lists

take_more : {X : Type 0} (xs : List X) (n : ℕ) → n < length xs → take n xs ++ option_to_list (slice_get xs n) ≡ take (suc n) xs
take_more [] n h = absurd (omega (arith, h))
take_more (x ∷ xs) zero h = refl
take_more (x ∷ xs) (suc n) h = ap (λ l. x ∷ l) (take_more xs n (omega (arith, h)))

take_whole : {X : Type 0} (xs : List X) → take (length xs) xs ≡ xs
take_whole [] = refl
take_whole (x ∷ xs) = ap (λ l. x ∷ l) (take_whole xs)

got_low : {X : Type 0} (xs : List X) (n : ℕ) (x : X) → slice_get xs n ≡ Some x → n < length xs
got_low [] n x h = absurd (cc)
got_low (y ∷ xs) zero x h = omega arith
got_low (y ∷ xs) (suc n) x h = let rest = got_low xs n x h in omega (arith, rest)

-- Lacks of a submission

pub same_lacks : (f g : Lack → Option SurfaceId) (o : ℕ) → ((n : ℕ) → f (record { order = o; nth = n }) ≡ g (record { order = o; nth = n })) → (m : ℕ) → lacks_of f o m ≡ lacks_of g o m
unfolding lacks_of
same_lacks f g o same zero = refl
same_lacks f g o same (suc m) = (λ i. same_lacks f g o same m i ++ option_to_list (same m i))

front_lacks : (f : Lack → Option SurfaceId) (o : ℕ) (xs : List SurfaceId) → ((n : ℕ) → f (record { order = o; nth = n }) ≡ slice_get xs n) → (m : ℕ) → m ≤ length xs → lacks_of f o m ≡ take m xs
unfolding lacks_of
front_lacks f o xs is zero h = refl
front_lacks f o xs is (suc m) h = (λ i. front_lacks f o xs is m (omega (arith, h)) i ++ option_to_list (is m i)) ∙ take_more xs m (omega (arith, h))

pub put_lacks : (f : Lack → Option SurfaceId) (o : ℕ) (xs : List SurfaceId) → ((n : ℕ) → f (record { order = o; nth = n }) ≡ slice_get xs n) → lacks_of f o (length xs) ≡ xs
put_lacks f o xs is = front_lacks f o xs is (length xs) (omega arith) ∙ take_whole xs

-- Counts

pub unready_few : (es : List (ℕ × Count)) → length (unready es) ≤ length es
unfolding unready
unready_few [] = omega arith
unready_few (e ∷ es) = grind (arith, nat_tests, unready_few es)

-- one more entry, of a number that had none
put_length : (o : ℕ) (c : Count) (es : List (ℕ × Count)) → lookup (nat_eq o) es ≡ None → length (insert_entry nat_eq es o c) ≡ length es + 1
put_length o c [] h = omega arith
put_length o c (e ∷ es) h = grind (arith, nat_tests, put_length o c es)

one_at_most : (t : Bool) (e : ℕ × Count) → length (cond t (e ∷ []) []) ≤ 0 + 1
one_at_most true e = omega arith
one_at_most false e = omega arith

put_unready : (o : ℕ) (c : Count) (es : List (ℕ × Count)) → lookup (nat_eq o) es ≡ None → length (unready (insert_entry nat_eq es o c)) ≤ length (unready es) + 1
unfolding unready
put_unready o c [] h = one_at_most (nat_lt 0 c.unmet) (o, c)
put_unready o c (e ∷ es) h = grind (arith, nat_tests, put_unready o c es)

-- A submission is blocked

module _ (a b : Lacks) (o : ℕ) (unmet : List SurfaceId) (kept : IsKept a) (new : count_in a o ≡ None) (some : 0 < length unmet)
    (placed : IsPlaced b.on.entries b.groups b.sinks)
    (on : (x : Lack) → on_in b x ≡ cond (o == x.order) (slice_get unmet x.nth) (on_in a x))
    (count : (q : ℕ) → count_in b q ≡ cond (nat_eq o q) (Some (whole (length unmet))) (count_in a q))
    (entries : b.counts.entries ≡ insert_entry nat_eq a.counts.entries o (whole (length unmet)))
    (freed : b.freed.items ≡ a.freed.items)
    (places : length a.counts.entries + 1 ≤ vec_capacity b.freed) where
  block_within : (x : Lack) (d : SurfaceId) → on_in b x ≡ Some d → (c : Count) × (count_in b x.order ≡ Some c) × (x.nth < c.all)
  block_within x d h =
      elim (either (o == x.order)) [
        | inl k ↦ (whole (length unmet), count x.order ∙ pick_yes _ _ _ k, got_low unmet x.nth d (sym (pick_yes _ _ _ k) ∙ sym (on x) ∙ h))
        | inr k ↦ (let was = kept.within x d (sym (pick_no _ _ _ k) ∙ sym (on x) ∙ h) in (was.0, count x.order ∙ pick_no _ _ _ k ∙ was.1, was.2))
      ]

  block_counted : (q : ℕ) (c : Count) → count_in b q ≡ Some c → c.unmet ≡ length (lacks_of (on_in b) q c.all)
  block_counted q c h = grind (arith, nat_tests, either (nat_eq o q), some_same (whole (length unmet)) c, pick_yes, put_lacks (on_in b) q unmet, pick_no, same_lacks (on_in a) (on_in b) q)

  block_freed : (q : ℕ) → is_in q b.freed.items ≡ is_done (count_in b q)
  block_freed q = grind (arith, nat_tests, either (nat_eq o q), from_number o q, pick_yes, pick_no)

  pub block_kept : IsKept b
  block_kept = grind (arith, nat_tests, stand_by, listed_by, block_within, block_counted, block_freed, put_length, put_unready)

-- A submission is forgotten

module _ (a b : Lacks) (o : ℕ) (kept : IsKept a)
    (placed : IsPlaced b.on.entries b.groups b.sinks)
    (on : (x : Lack) → on_in b x ≡ cond (o == x.order) None (on_in a x))
    (count : (q : ℕ) → count_in b q ≡ cond (nat_eq o q) None (count_in a q))
    (none : a.freed.items ≡ []) (freed : b.freed.items ≡ a.freed.items) (fewer : length b.counts.entries ≤ length a.counts.entries)
    (places : vec_capacity b.freed ≡ vec_capacity a.freed) where
  forget_on : (x : Lack) (d : SurfaceId) → on_in b x ≡ Some d → ((o == x.order) ≡ false) × (on_in a x ≡ Some d)
  forget_on x d h = grind (arith, nat_tests, either, none_some d (on_in b x), pick_yes, pick_no)

  forget_within : (x : Lack) (d : SurfaceId) → on_in b x ≡ Some d → (c : Count) × (count_in b x.order ≡ Some c) × (x.nth < c.all)
  forget_within x d h =
      let p = forget_on x d h in
      let was = kept.within x d p.1 in
      (was.0, count x.order ∙ pick_no _ _ _ p.0 ∙ was.1, was.2)

  forget_counted : (q : ℕ) (c : Count) → count_in b q ≡ Some c → c.unmet ≡ length (lacks_of (on_in b) q c.all)
  forget_counted q c h = grind (arith, nat_tests, either (nat_eq o q), none_some c (count_in b q), pick_yes, pick_no, same_lacks (on_in a) (on_in b) q)

  forget_freed : (q : ℕ) → is_in q b.freed.items ≡ is_done (count_in b q)
  forget_freed q = grind (arith, nat_tests, either (nat_eq o q), nobody q, pick_yes, pick_no)

  pub forget_kept : IsKept b
  forget_kept = grind (arith, nat_tests, stand_by, listed_by, forget_within, forget_counted, forget_freed, unready_few)

-- all lacks of a submission are among the first so many
pub taken_all : (a : Lacks) (o : ℕ) (c : Count) → IsKept a → count_in a o ≡ Some c → (x : Lack) → cond ((o == x.order) && nat_lt x.nth c.all) None (on_in a x) ≡ cond (o == x.order) None (on_in a x)
taken_all a o c kept there x = grind (arith, nat_tests, either, either (nat_lt x.nth c.all), pick_yes, pick_no, some_same, from_number o x.order)

pub none_taken : (a : Lacks) (o : ℕ) → IsKept a → count_in a o ≡ None → (x : Lack) → on_in a x ≡ cond (o == x.order) None (on_in a x)
none_taken a o kept none x = grind (arith, nat_tests, either, pick_yes, pick_no, none_some, from_number o x.order)
