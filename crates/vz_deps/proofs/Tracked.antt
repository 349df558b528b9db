-- A submission is blocked, and one is forgotten.
use Rattle.std.proofs.Common.{◌≡◌, ℕ, ◌+◌, ◌-◌, ◌<◌, ◌≤◌, min, Bool, true, false, not, ◌==◌, cond, nat_eq, Option, Some, None, is_some, List, [], ◌∷◌, length, filter, slice_get, refl, ap, sym, inl, inr, ◌∙◌, arith}
use Rattle.std.specs.Map.{lookup}
use Rattle.std.proofs.lemmas.Bool.Decides.{nat_tests}
use Rattle.vz_ids.specs.declared.Sub.{Sub}
use Rattle.vz_ids.specs.declared.SurfaceId.{SurfaceId}
use Rattle.vz_ids.specs.Ids.{same_sub}
use Rattle.vz_deps.specs.declared.bunches.Lack.{Lack}
use Rattle.vz_deps.specs.declared.lacks.Count.{Count}
use Rattle.vz_deps.specs.declared.lacks.Lacks.{Lacks}
use Rattle.vz_deps.specs.Tracking.{is_blocked, listed}
use Rattle.vz_deps.specs.Lacking.{on_in, count_in, unmet_in, whole, IsKept}
use Rattle.vz_deps.specs.Ordered.{in_order}
use Rattle.vz_deps.specs.Numbering.{IsNumbered, IsTracked}
use Rattle.vz_deps.proofs.Same.{either, pick_yes, pick_no, some_same, none_some, yes_no, from_number, own_number}
use Rattle.vz_deps.proofs.Adding.{same_lacks, put_lacks}
use Rattle.vz_deps.proofs.Orders.{at_order, order_filter}
use Rattle.vz_deps.proofs.Released.{from_sub, own_sub}
use Rattle.vz_deps.proofs.Done.{out_kept}
use Rattle.vz_deps.proofs.Views.{found_blocked}

-- what is not blocked has no number
pub fresh_sub : (unmet : ℕ → List SurfaceId) (subs : List (ℕ × Sub)) (numbers : List (Sub × ℕ)) (s : Sub) → IsNumbered subs numbers → is_blocked (listed unmet (in_order subs)) s ≡ false → lookup (same_sub s) numbers ≡ None
fresh_sub unmet subs numbers s is none = by (lookup (same_sub s) numbers) refl
  where
    by : (v : Option ℕ) → lookup (same_sub s) numbers ≡ v → v ≡ None
    by None e = refl
    by (Some n) e =
        let no_way = yes_no (is_blocked (listed unmet (in_order subs)) s) (found_blocked unmet (in_order subs) n s (at_order n subs ∙ is.of_sub s n e)) none in
        absurd (cc)

pub fresh_number : (subs : List (ℕ × Sub)) (n : ℕ) → ((o : ℕ) (s : Sub) → lookup (nat_eq o) subs ≡ Some s → o < n) → lookup (nat_eq n) subs ≡ None
fresh_number subs n later = grind (arith, nat_tests)

pub numbered_more : (subs more : List (ℕ × Sub)) (numbers longer : List (Sub × ℕ)) (n : ℕ) (s : Sub) → IsNumbered subs numbers → lookup (nat_eq n) subs ≡ None → lookup (same_sub s) numbers ≡ None
    → ((q : ℕ) → lookup (nat_eq q) more ≡ cond (nat_eq n q) (Some s) (lookup (nat_eq q) subs)) → ((t : Sub) → lookup (same_sub t) longer ≡ cond (same_sub s t) (Some n) (lookup (same_sub t) numbers)) → IsNumbered more longer
numbered_more subs more numbers longer n s is no_number no_sub by_number by_sub = grind (arith, nat_tests, either, some_same, pick_yes, own_number, from_sub, pick_no, none_some, from_number, own_sub)

pub later_more : (subs more : List (ℕ × Sub)) (n : ℕ) (s : Sub) → ((o : ℕ) (t : Sub) → lookup (nat_eq o) subs ≡ Some t → o < n) → ((q : ℕ) → lookup (nat_eq q) more ≡ cond (nat_eq n q) (Some s) (lookup (nat_eq q) subs))
    → (o : ℕ) (t : Sub) → lookup (nat_eq o) more ≡ Some t → o < n + 1
later_more subs more n s later is o t h = grind (arith, nat_tests, either (nat_eq n o), from_number n o, pick_no)

pub counts_more : {A B : Type 0} (t : Bool) (x y : Option A) (u v : Option B) (a : A) (b : B) → x ≡ cond t (Some a) y → u ≡ cond t (Some b) v → is_some y ≡ is_some v → is_some x ≡ is_some u
counts_more true x y u v a b p q h = ap is_some p ∙ sym (ap is_some q)
counts_more false x y u v a b p q h = ap is_some p ∙ h ∙ sym (ap is_some q)

-- What the others lack, and what the new one lacks

pub other_unmet : (a b : Lacks) (n : ℕ) (f : Lack → Option SurfaceId) (c : Option Count) → ((x : Lack) → on_in b x ≡ cond (n == x.order) (f x) (on_in a x)) → ((o : ℕ) → count_in b o ≡ cond (nat_eq n o) c (count_in a o))
    → (o : ℕ) → nat_eq n o ≡ false → unmet_in b o ≡ unmet_in a o
other_unmet a b n f c on count o k = grind (arith, nat_tests, pick_no, same_lacks (on_in b) (on_in a) o)

pub new_unmet : (a b : Lacks) (n : ℕ) (unmet : List SurfaceId) → ((x : Lack) → on_in b x ≡ cond (n == x.order) (slice_get unmet x.nth) (on_in a x)) → ((o : ℕ) → count_in b o ≡ cond (nat_eq n o) (Some (whole (length unmet))) (count_in a o))
    → unmet_in b n ≡ unmet
new_unmet a b n unmet on count = grind (arith, nat_tests, pick_yes, own_number n, put_lacks (on_in b) n unmet)

-- A submission is forgotten

number_is : (subs : List (ℕ × Sub)) (numbers : List (Sub × ℕ)) (n : ℕ) (s : Sub) → IsNumbered subs numbers → lookup (same_sub s) numbers ≡ Some n → (j : ℕ) (v : Sub) → lookup (nat_eq j) subs ≡ Some v → nat_eq n j ≡ same_sub v s
number_is subs numbers n s is found j v h = grind (arith, nat_tests, either, some_same, from_number, own_sub, from_sub, yes_no, own_number)

pub subs_without : (subs less : List (ℕ × Sub)) (numbers : List (Sub × ℕ)) (n : ℕ) (s : Sub) → IsNumbered subs numbers → lookup (same_sub s) numbers ≡ Some n → ((q : ℕ) → lookup (nat_eq q) less ≡ cond (nat_eq n q) None (lookup (nat_eq q) subs))
    → in_order less ≡ filter (λ e. not (same_sub e.1 s)) (in_order subs)
subs_without subs less numbers n s is found gone =
    order_filter (λ (e : ℕ × Sub). not (same_sub e.1 s)) subs less
    (λ j. gone j ∙ out_kept (λ (e : ℕ × Sub). same_sub e.1 s) j (nat_eq n j) (lookup (nat_eq j) subs) (λ v h. number_is subs numbers n s is found j v h))

pub subs_stay : (subs : List (ℕ × Sub)) (numbers : List (Sub × ℕ)) (s : Sub) → IsNumbered subs numbers → lookup (same_sub s) numbers ≡ None → in_order subs ≡ filter (λ e. not (same_sub e.1 s)) (in_order subs)
subs_stay subs numbers s is none =
    order_filter (λ (e : ℕ × Sub). not (same_sub e.1 s)) subs subs
    (λ j. out_kept (λ (e : ℕ × Sub). same_sub e.1 s) j false (lookup (nat_eq j) subs) (λ v h.
    elim (either (same_sub v s)) [
      | inl l ↦ let no_way = none_some j (lookup (same_sub s) numbers) none (ap (λ t. lookup (same_sub t) numbers) (sym (from_sub v s l)) ∙ is.of_number j v h) in absurd (cc)
      | inr l ↦ sym l
    ]))

pub other_number : (n o : ℕ) (v w : Option Sub) (t : Sub) → w ≡ cond (nat_eq n o) None v → w ≡ Some t → nat_eq n o ≡ false
other_number n o v w t is h = grind (arith, nat_tests, either (nat_eq n o), none_some t w, pick_yes)

pub not_next : (n o : ℕ) → o < n → nat_eq n o ≡ false
not_next n o h = grind (arith, nat_tests, h)

-- None is blocked

pub none_tracked : (subs : List (ℕ × Sub)) (numbers : List (Sub × ℕ)) (l : Lacks) → subs ≡ [] → numbers ≡ [] → IsKept l → ((o : ℕ) → count_in l o ≡ None) → length l.freed.items ≡ 0 → IsTracked subs numbers l 0
none_tracked subs numbers l no_subs no_numbers kept none freed = record {
  kept = kept;
  none = no_length l.freed.items freed;
  counts = λ o. ap is_some (none o) ∙ sym (ap is_some (no_sub o));
  numbered = record {
    of_sub = λ s o h. (let no_way = none_some o (lookup (same_sub s) numbers) (ap (λ e. lookup (same_sub s) e) no_numbers) h in absurd (cc));
    of_number = λ o s h. (let no_way = none_some s (lookup (nat_eq o) subs) (no_sub o) h in absurd (cc));
  };
  later = λ o s h. (let no_way = none_some s (lookup (nat_eq o) subs) (no_sub o) h in absurd (cc));
}
  where
    no_sub : (o : ℕ) → lookup (nat_eq o) subs ≡ None
    no_sub o = ap (λ e. lookup (nat_eq o) e) no_subs

    no_length : (xs : List ℕ) → length xs ≡ 0 → xs ≡ []
    no_length [] h = refl
    no_length (x ∷ xs) h = absurd (omega (arith, h))

pub none_listed : (unmet : ℕ → List SurfaceId) (subs : List (ℕ × Sub)) → subs ≡ [] → listed unmet (in_order subs) ≡ []
unfolding listed in_order
none_listed unmet subs none = ap (λ l. listed unmet (in_order l)) none

-- what room is left after this much of it was used
pub room_used : (r n a b c d a' b' c' d' : ℕ) → r ≤ min a (min b (min c d)) → a ≤ a' + n → b ≤ b' + n → c ≤ c' + n → d ≤ d' + n → r - n ≤ min a' (min b' (min c' d'))
room_used r n a b c d a' b' c' d' h p q s t = omega arith
