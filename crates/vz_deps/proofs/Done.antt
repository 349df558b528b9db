-- The submissions that lack nothing any more, and what is left where they are released.
use Rattle.std.proofs.Common.{◌≡◌, ℕ, ◌≤◌, ◌<◌, Bool, true, false, not, cond, nat_eq, Option, Some, None, List, [], ◌∷◌, length, filter, refl, ap, sym, subst, inl, inr, ◌∙◌, arith, vec_capacity}
use Rattle.std.specs.List.Sorted.{IsPermutation}
use Rattle.std.specs.Map.{lookup}
use Rattle.std.specs.Option.{option_map}
use Rattle.std.proofs.lemmas.List.Sorted.{list_any-IsPermutation}
use Rattle.std.proofs.lemmas.Bool.Decides.{nat_tests}
use Rattle.vz_ids.specs.declared.Sub.{Sub}
use Rattle.vz_ids.specs.declared.SurfaceId.{SurfaceId}
use Rattle.vz_deps.specs.declared.bunches.Lack.{Lack}
use Rattle.vz_deps.specs.declared.lacks.Count.{Count}
use Rattle.vz_deps.specs.declared.lacks.Lacks.{Lacks}
use Rattle.vz_deps.specs.Bunching.{bunch_of, Stands}
use Rattle.vz_deps.specs.Placing.{bunch_for}
use Rattle.vz_deps.specs.Lacking.{on_in, count_in, bunches_for, is_done, is_in, lacks_of, all_of, unmet_in, is_nothing, IsKept, HasCounts}
use Rattle.vz_deps.specs.Ordered.{in_order}
use Rattle.vz_deps.proofs.Same.{either, pick_yes, pick_no, some_same, none_some, from_number}
use Rattle.vz_deps.proofs.Keeping.{nobody, lacks_some}
use Rattle.vz_deps.proofs.Adding.{same_lacks, unready_few}
use Rattle.vz_deps.proofs.Orders.{one_list, rising_order, rising_filter, at_filter, at_order, keep_at, order_filter}

pub same_members : (xs ys : List ℕ) → IsPermutation xs ys → (o : ℕ) → is_in o ys ≡ is_in o xs
unfolding is_in
same_members xs ys moved o = sym (list_any-IsPermutation (λ n. nat_eq o n) xs ys moved)

none_of : (xs : List SurfaceId) → length xs ≡ 0 → xs ≡ []
none_of [] h = refl
none_of (x ∷ xs) h = absurd (omega (arith, h))

done_count : (o : Option Count) → is_done o ≡ true → (c : Count) × (o ≡ Some c) × (c.unmet ≡ 0)
done_count None h = absurd (cc)
done_count (Some c) h = (c, refl, from_number c.unmet 0 h)

pub out_kept : {V : Type 0} (q : ℕ × V → Bool) (j : ℕ) (t : Bool) (o : Option V) → ((v : V) → o ≡ Some v → t ≡ q (j, v)) → cond t None o ≡ keep_at (λ e. not (q e)) j o
unfolding keep_at
out_kept q j true None same = refl
out_kept q j false None same = refl
out_kept q j t (Some v) same = grind (arith, nat_tests)

module _ (l : Lacks) (subs : List (ℕ × Sub)) (kept : IsKept l) (counts : HasCounts l subs) (F : List ℕ) (same : (o : ℕ) → is_in o F ≡ is_in o l.freed.items) where
  in_done : (o : ℕ) → is_in o F ≡ is_done (count_in l o)
  in_done o = same o ∙ kept.freed o

  its_unmet_of : (o : ℕ) (c : Count) → count_in l o ≡ Some c → length (unmet_in l o) ≡ c.unmet
  its_unmet_of o c h = ap (λ v. length (lacks_of (on_in l) o (all_of v))) h ∙ sym (kept.counted o c h)

  -- of those that are blocked, those are noted that lack nothing
  done_nothing : (o : ℕ) (v : Sub) → lookup (nat_eq o) subs ≡ Some v → is_in o F ≡ is_nothing (unmet_in l o)
  done_nothing o v h = grind (arith, nat_tests, in_done o, its_unmet_of o)

  pub out_same : filter (λ e. is_in e.0 F) (in_order subs) ≡ filter (λ e. is_nothing (unmet_in l e.0)) (in_order subs)
  unfolding keep_at
  out_same = grind (arith, nat_tests, one_list, rising_filter, rising_order subs, at_filter, done_nothing, at_order)

  pub subs_same : (less : List (ℕ × Sub)) → ((o : ℕ) → lookup (nat_eq o) less ≡ cond (is_in o F) None (lookup (nat_eq o) subs)) → in_order less ≡ filter (λ e. not (is_nothing (unmet_in l e.0))) (in_order subs)
  subs_same less is =
      order_filter (λ (e : ℕ × Sub). not (is_nothing (unmet_in l e.0))) subs less
      (λ j. is j ∙ out_kept (λ (e : ℕ × Sub). is_nothing (unmet_in l e.0)) j (is_in j F) (lookup (nat_eq j) subs) (λ v h. done_nothing j v h))

  module _ (b : Lacks) (on : (x : Lack) → on_in b x ≡ on_in l x) (stands : (w : Bool) → Stands (bunches_for w b)) (listed : (w : Bool) (x : Lack) → bunch_of (bunches_for w b) x ≡ option_map (bunch_for w) (on_in b x))
      (count : (o : ℕ) → count_in b o ≡ cond (is_in o F) None (count_in l o)) (freed : b.freed.items ≡ []) (fewer : length b.counts.entries ≤ length l.counts.entries)
      (places : vec_capacity l.freed ≤ vec_capacity b.freed) where
    pub unmet_same : (o : ℕ) → unmet_in b o ≡ unmet_in l o
    unfolding lacks_of
    unmet_same o = grind (arith, nat_tests, either (is_in o F), done_count (count_in l o), in_done o, pick_yes, none_of (unmet_in l o), its_unmet_of o, pick_no, same_lacks (on_in b) (on_in l) o)

    left_count : (o : ℕ) (c : Count) → count_in b o ≡ Some c → (is_in o F ≡ false) × (count_in l o ≡ Some c)
    left_count o c h = grind (arith, nat_tests, either (is_in o F), none_some c (count_in b o), pick_yes, pick_no)

    within_same : (x : Lack) (d : SurfaceId) → on_in b x ≡ Some d → (c : Count) × (count_in b x.order ≡ Some c) × (x.nth < c.all)
    within_same x d h =
        let found : on_in l x ≡ Some d = sym (on x) ∙ h in
        let was = kept.within x d found in
        elim (either (is_in x.order F)) [
          | inl k ↦
              let c = done_count (count_in l x.order) (sym (in_done x.order) ∙ k) in
              let one : c.0 ≡ was.0 = some_same c.0 was.0 (sym c.1 ∙ was.1) in
              let none : was.0.unmet ≡ 0 = subst (λ (c : Count). c.unmet ≡ 0) one c.2 in
              let some = lacks_some (on_in l) x d found was.0.all was.2 in
              let is = kept.counted x.order was.0 was.1 in
              absurd (omega (arith, none, some, is))
          | inr k ↦ (was.0, count x.order ∙ pick_no _ _ _ k ∙ was.1, was.2)
        ]

    counted_same : (o : ℕ) (c : Count) → count_in b o ≡ Some c → c.unmet ≡ length (lacks_of (on_in b) o c.all)
    counted_same o c h = kept.counted o c (left_count o c h).1 ∙ ap length (same_lacks (on_in l) (on_in b) o (λ n. sym (on (record { order = o; nth = n }))) c.all)

    freed_same : (o : ℕ) → is_in o b.freed.items ≡ is_done (count_in b o)
    freed_same o = grind (arith, nat_tests, nobody o, either (is_in o F), pick_yes, pick_no, in_done o)

    pub done_kept : IsKept b
    done_kept = grind (arith, nat_tests, within_same, counted_same, freed_same, unready_few)
