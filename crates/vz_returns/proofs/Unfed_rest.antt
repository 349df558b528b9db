-- The submissions that await feedback between steps, by client and ordinal, are the rest of the state.
use Rattle.std.proofs.Common.{◌≡◌, ℕ, suc, ◌<◌, Bool, true, false, not, ◌&&◌, ◌||◌, ◌==◌, Option, Some, None, is_some, is_none, List, [], ◌∷◌, ◌++◌, take, map, filter, flat_map, slice_get, Contains, count_by, refl, ap, sym, ◌∙◌, arith, cond}
use Rattle.std.specs.List.{list_any, list_all}
use Rattle.std.proofs.{lemmas.Bool.Decides.nat_tests, lemmas.List.Folds.list_any-append, lemmas.List.Folds.list_all-append}
use Rattle.vz_ids.specs.{declared.Sub.Sub, Ids.same_sub}
use Rattle.vz_rules.specs.{World.World, World.Client, World.Submission, World.sub_of, Kept.Keeps, Kept.KeepsAlways, Kept.AreOrdered, Kept.is_by}
use Rattle.vz_rules.specs.{Returns.feedback_of, Log.unfed_of, Log.rest_in}
use Rattle.vz_rules.proofs.Members.{at_contains, contains_at, contains_here, contains_there, contains_map, filter_at, flat_map_at, any_at, any_from, any_map, all_from, same_tests}
use Rattle.vz_rules.proofs.Counts.{count_before}
use Rattle.vz_returns.specs.{Unfed.before, Unfed.in_order, Unfed.is_open, Owed.Owed, Owed.AreOwed, Owed.place_of}
use Rattle.vz_returns.proofs.Kept.{both, two_true, from_same_sub}
use Rattle.vz_returns.proofs.{Owes.same_self, Sorted_subs.one_list, Owed_kept.none_gets}

-- Those of the state, by client and ordinal

-- what is in order stays so behind what comes before it
joined : (xs ys : List Sub) → in_order xs ≡ true → in_order ys ≡ true → ((x y : Sub) → Contains xs x → Contains ys y → before x y ≡ true)
    → in_order (xs ++ ys) ≡ true
unfolding in_order
joined [] ys h k less = k
joined (x ∷ xs) ys h k less =
    let p = both (list_all (before x) xs) (in_order xs) h in
    two_true _ _ (list_all-append (before x) xs ys ∙ two_true _ _ p.0 (all_from (before x) ys (λ y c. less x y (contains_here x xs) c)))
    (joined xs ys p.1 k (λ z y c d. less z y (contains_there x z xs c) d))

-- some of these, which rise by places
abbrev AreRisen : (Submission → Bool) → List Submission → Type 0
AreRisen q subs =
    (n m : ℕ) (s t : Submission) → slice_get subs n ≡ Some s → slice_get subs m ≡ Some t → n < m → q s ≡ true → q t ≡ true
    → before (sub_of s) (sub_of t) ≡ true

picked : (q : Submission → Bool) (subs : List Submission) → AreRisen q subs → in_order (map sub_of (filter q subs)) ≡ true
unfolding in_order
picked q [] rise = refl
picked q (s ∷ subs) rise =
    let rest = picked q subs (λ n m s t at there l. rise (suc n) (suc m) s t at there (omega (arith, l))) in
    elim (q s) as (λ (b : Bool). q s ≡ b → in_order (map sub_of (cond b (s ∷ filter q subs) (filter q subs))) ≡ true) [
      | true ↦ λ e. two_true _ _ (all_from (before (sub_of s)) (map sub_of (filter q subs)) (λ x c.
          let m = contains_map sub_of (filter q subs) x c in
          let p = filter_at q subs m.0 m.1 in
          let at = contains_at subs m.0 p.0 in
          ap (before (sub_of s)) (sym m.2) ∙ rise 0 (suc at.0) s m.0 refl at.1 (omega arith) e p.1)) rest
      | false ↦ λ e. rest
    ] refl

unfed_by : ℕ → Submission → Bool
unfed_by c s = (s.submitted.sub.client == c) && not s.fed

risen : (c : ℕ) (subs : List Submission) → AreOrdered subs → AreRisen (unfed_by c) subs
unfolding unfed_by
risen c subs ordered n m s t at there l p q =
    let a = both (s.submitted.sub.client == c) (not s.fed) p in
    let b = both (t.submitted.sub.client == c) (not t.fed) q in
    let client : s.submitted.sub.client ≡ t.submitted.sub.client = grind (arith, nat_tests, a.0, b.0) in
    let one = ordered n s at in
    let two = ordered m t there in
    let same = ap (λ k. count_by (is_by k) (take n subs)) client in
    let more = count_before (is_by t.submitted.sub.client) subs n m s at
    (ap (λ k. s.submitted.sub.client == k) (sym client) ∙ own s.submitted.sub.client) l in
    let less : s.submitted.sub.ordinal < t.submitted.sub.ordinal = omega (arith, one, two, same, more) in
    grind (arith, nat_tests, client, less)
  where
    own : (k : ℕ) → (k == k) ≡ true
    own k = grind (arith, nat_tests)

member_client : (c : ℕ) (subs : List Submission) (x : Sub) → Contains (map sub_of (filter (unfed_by c) subs)) x → x.client ≡ c
unfolding unfed_by
member_client c subs x h =
    let m = contains_map sub_of (filter (unfed_by c) subs) x h in
    let p = filter_at (unfed_by c) subs m.0 m.1 in
    let b = both (m.0.submitted.sub.client == c) (not m.0.fed) p.1 in
    let at : m.0.submitted.sub.client ≡ c = grind (arith, nat_tests, b.0) in
    ap (λ (z : Sub). z.client) (sym m.2) ∙ at

-- clients by rising numbers
abbrev AreNumbered : List Client → Type 0
AreNumbered clients = (n m : ℕ) (c d : Client) → slice_get clients n ≡ Some c → slice_get clients m ≡ Some d → n < m → c.number < d.number

listed : List Submission → Client → List Sub
listed subs c = map sub_of (filter (unfed_by c.number) subs)

all_listed : (subs : List Submission) (clients : List Client) → AreOrdered subs → AreNumbered clients
    → in_order (flat_map (listed subs) clients) ≡ true
unfolding in_order listed
all_listed subs [] ordered numbered = refl
all_listed subs (c ∷ clients) ordered numbered =
    joined (listed subs c) (flat_map (listed subs) clients) (picked (unfed_by c.number) subs (risen c.number subs ordered))
    (all_listed subs clients ordered (λ n m a b at there l. numbered (suc n) (suc m) a b at there (omega (arith, l))))
    (λ x y p q.
    let m = flat_map_at (listed subs) clients y q in
    let at = contains_at clients m.0 m.1 in
    let less = numbered 0 (suc at.0) c m.0 refl at.1 (omega arith) in
    let first = member_client c.number subs x p in
    let second = member_client m.0.number subs y m.2 in
    let client : x.client < y.client = omega (arith, less, first, second) in
    grind (arith, nat_tests, client))

-- What is in them

any_flat : {A : Type 0} (h : A → List Sub) (p : Sub → Bool) (xs : List A) → list_any p (flat_map h xs) ≡ list_any (λ x. list_any p (h x)) xs
any_flat h p [] = refl
any_flat h p (x ∷ xs) = list_any-append p (h x) (flat_map h xs) ∙ ap (λ b. list_any p (h x) || b) (any_flat h p xs)

any_filter : (q p : Submission → Bool) (xs : List Submission) → list_any p (filter q xs) ≡ list_any (λ x. q x && p x) xs
any_filter q p [] = refl
any_filter q p (x ∷ xs) = grind (arith, nat_tests, any_filter q p xs)

has_listed : (subs : List Submission) (c : Client) (t : Sub)
    → is_open (listed subs c) t ≡ list_any (λ s. unfed_by c.number s && same_sub (sub_of s) t) subs
unfolding listed
has_listed subs c t =
    any_map sub_of (λ x. same_sub x t) (λ s. same_sub (sub_of s) t) (filter (unfed_by c.number) subs) (λ s. refl)
    ∙ any_filter (unfed_by c.number) (λ s. same_sub (sub_of s) t) subs

abbrev is_unfed : Sub → Submission → Bool
is_unfed t s = not s.fed && same_sub (sub_of s) t

has_rest : (w : World) (t : Sub) → KeepsAlways w → is_open (flat_map (listed w.subs) w.clients) t ≡ list_any (is_unfed t) w.subs
unfolding unfed_by
has_rest w t keeps =
    any_flat (listed w.subs) (λ x. same_sub x t) w.clients
    ∙ same_tests (list_any (λ c. is_open (listed w.subs c) t) w.clients) (list_any (is_unfed t) w.subs)
    (λ h.
    let c = any_at (λ c. is_open (listed w.subs c) t) w.clients h in
    let s = any_at (λ s. unfed_by c.0.number s && same_sub (sub_of s) t) w.subs (sym (has_listed w.subs c.0 t) ∙ c.2) in
    let p = both (unfed_by c.0.number s.0) (same_sub (sub_of s.0) t) s.2 in
    let q = both (s.0.submitted.sub.client == c.0.number) (not s.0.fed) p.0 in
    any_from (is_unfed t) w.subs s.0 s.1 (two_true _ _ q.1 p.1))
    (λ h.
    let s = any_at (is_unfed t) w.subs h in
    let p = both (not s.0.fed) (same_sub (sub_of s.0) t) s.2 in
    let created = keeps.numbers.created s.0 s.1 in
    let owner = keeps.surfaces.of_clients created.0 created.1 in
    let number : (s.0.submitted.sub.client == owner.0.number) ≡ true = equal s.0.submitted.sub.client owner.0.number
    (sym (owner.2 ∙ created.3)) in
    any_from (λ c. is_open (listed w.subs c) t) w.clients owner.0 owner.1
    (has_listed w.subs owner.0 t ∙ any_from (λ s. unfed_by owner.0.number s && same_sub (sub_of s) t) w.subs s.0 s.1
    (two_true _ _ (two_true _ _ number p.0) p.1)))
  where
    equal : (a b : ℕ) → a ≡ b → (a == b) ≡ true
    equal a b e = grind (arith, nat_tests, e)

has_place : (w : World) (f : Owed) (t : Sub) → Keeps w → AreOwed w f → is_some (place_of f t) ≡ list_any (is_unfed t) w.subs
has_place w f t h o =
    same_tests (is_some (place_of f t)) (list_any (is_unfed t) w.subs) (λ e. there (place_of f t) refl e)
    (λ e.
    let s = any_at (is_unfed t) w.subs e in
    let p = both (not s.0.fed) (same_sub (sub_of s.0) t) s.2 in
    let at = contains_at w.subs s.0 s.1 in
    let waits : (not s.0.fed && is_none (feedback_of w [] s.0)) ≡ true = λ i. p.0 i && is_none (none_gets w s.0 h s.1 i) in
    ap (λ x. is_some (place_of f x)) (sym (from_same_sub (sub_of s.0) t p.1)) ∙ ap is_some (o.places at.0 s.0 at.1 waits))
  where
    there : (v : Option ℕ) → place_of f t ≡ v → is_some v ≡ true → list_any (is_unfed t) w.subs ≡ true
    there None e k = absurd (cc)
    there (Some n) e k =
        let m = o.only t n e in
        let p = both (not m.0.fed) (is_none (feedback_of w [] m.0)) m.3 in
        any_from (is_unfed t) w.subs m.0 (at_contains w.subs n m.0 m.1) (two_true _ _ p.0 (ap (λ x. same_sub x t) m.2 ∙ same_self t))

by_number : (w : World) → KeepsAlways w → AreNumbered w.clients
by_number w keeps n m c d at there l = grind (arith, nat_tests)

pub rest_is : (w : World) (f : Owed) (list : List Sub) → Keeps w → AreOwed w f → in_order list ≡ true
    → ((t : Sub) → is_open list t ≡ is_some (place_of f t)) → list ≡ (rest_in w).unfed
unfolding rest_in listed unfed_by
rest_is w f list h o sorted same =
    one_list list (flat_map (unfed_of w) w.clients) sorted (all_listed w.subs w.clients h.always.numbers.ordered (by_number w h.always))
    (λ t. same t ∙ has_place w f t h o ∙ sym (has_rest w t h.always))
