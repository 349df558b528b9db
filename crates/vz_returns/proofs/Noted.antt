-- Feedback that became due.
use Rattle.std.proofs.Common.{◌≡◌, ℕ, ◌+◌, Bool, true, false, not, ◌&&◌, ◌==◌, inl, inr, Option, Some, None, is_some, is_none, List, [], ◌∷◌, ◌++◌, slice_get, Contains, count_by, refl, ap, sym, subst, ◌∙◌, arith, cond, append-nil}
use Rattle.std.specs.Option.{option_and_then}
use Rattle.std.proofs.{lemmas.Bool.Decides.nat_tests, lemmas.Bool.and_parts as both_true}
use Rattle.vz_ids.specs.{declared.Sub.Sub, Ids.same_sub}
use Rattle.vz_rules.specs.{declared.entry.Fed.Fed, World.Submission, World.sub_of}
use Rattle.vz_rules.proofs.{Members.contains_at, Members.contains_push, Counts.count_push}
use Rattle.vz_returns.proofs.{Kept.from_same_sub, Single.also}
use Rattle.vz_returns.specs.declared.due.Due.{Due}
use Rattle.vz_returns.specs.Owed.{Owed, Owes, place_of, awaits, gets_at}
use Rattle.vz_returns.specs.Notes.{IsNoted, is_name, fed_as, due_at, dues_of, noted}
use Rattle.vz_returns.proofs.Owes.{some_same, none_some, yes_no, owes_same, owes_alike, same_self}

-- One submission

left_waits : (fed : Bool) (g : Option Fed) (m : Bool) (x : Fed)
    → (not fed && is_none (also fed g m x)) ≡ true → ((not fed && is_none g) ≡ true) × (m ≡ false)
left_waits fed g m x h = grind (arith, nat_tests)

still_waits : (fed : Bool) (g : Option Fed) (m : Bool) (x : Fed) → (not fed && is_none g) ≡ true → m ≡ false
    → (not fed && is_none (also fed g m x)) ≡ true
still_waits fed g m x h k = grind (arith, nat_tests)

gets_now : (a m : Bool) (g : Option Fed) (x : Fed) → a ≡ true → m ≡ true → cond (a && m) (Some x) g ≡ Some x
gets_now a m g x h k = grind (arith, nat_tests)

gets_as_before : (a m : Bool) (g : Option Fed) (x : Fed) → (a && m) ≡ false → cond (a && m) (Some x) g ≡ g
gets_as_before a m g x h = ap (λ t. cond t (Some x) g) h

none_now : (fed : Bool) (g : Option Fed) → (not fed && is_none g) ≡ true → g ≡ None
none_now fed g h = grind (arith, nat_tests)

-- All of them

module _ (p : Bool) (gets : Submission → Option Fed) (subs : List Submission) (old : Owed) (o : Owes gets subs old) where
  still_at : (named : Sub → Bool) (n : ℕ) (y : Fed) → gets_at gets subs n ≡ Some y → gets_at (noted named p gets) subs n ≡ Some y
  still_at named n y h = grind (arith, nat_tests)

  -- none of that name awaits feedback
  pub none_noted : (e : Option Sub) (new : Owed) → ((t : Sub) (n : ℕ) → is_name e t ≡ true → place_of old t ≡ Some n → true ≡ false)
      → dues_of p e old ≡ [] → IsNoted e p old new
      → Owes (noted (is_name e) p gets) subs new
  none_noted e new none nothing is =
      owes_same gets (noted (is_name e) p gets) subs new (λ s c. same s c)
      (owes_alike gets subs old new places (is.due ∙ ap (λ l. old.due ++ l) nothing ∙ append-nil old.due) is.accepted o)
    where
      same_by : (s : Submission) (n : ℕ) (t : Bool) → slice_get subs n ≡ Some s → (awaits gets s && is_name e (sub_of s)) ≡ t → t ≡ false
      same_by s n false at h = refl
      same_by s n true at h =
          let parts = both_true (awaits gets s) (is_name e (sub_of s)) h in
          let no_way : true ≡ false = none (sub_of s) n parts.1 (o.places n s at parts.0) in
          no_way

      same : (s : Submission) → Contains subs s → noted (is_name e) p gets s ≡ gets s
      same s c =
          let at = contains_at subs s c in
          gets_as_before (awaits gets s) (is_name e (sub_of s)) (gets s) (fed_as p (sub_of s))
          (same_by s at.0 (awaits gets s && is_name e (sub_of s)) at.1 refl)

      places_by : (t : Sub) (b : Bool) (v : Option ℕ) → is_name e t ≡ b → place_of old t ≡ v → cond b None v ≡ v
      places_by t false v h k = refl
      places_by t true None h k = refl
      places_by t true (Some n) h k = let no_way : true ≡ false = none t n h k in absurd (cc)

      places : (t : Sub) → place_of new t ≡ place_of old t
      places t = is.places t ∙ places_by t (is_name e t) (place_of old t) refl refl

  -- the one of that name, at this place
  pub one_noted : (x : Sub) (n : ℕ) (new : Owed) → place_of old x ≡ Some n
      → dues_of p (Some x) old ≡ record { place = n; fed = fed_as p x } ∷ [] → IsNoted (Some x) p old new
      → Owes (noted (is_name (Some x)) p gets) subs new
  one_noted x n new found due is =
      let d : Due = record { place = n; fed = fed_as p x } in
      let list : new.due ≡ old.due ++ d ∷ [] = is.due ∙ ap (λ l. old.due ++ l) due in
      record {
        accepted = is.accepted ∙ o.accepted;
        places = λ k s at waits.
            let w = left_waits s.fed (gets s) (same_sub x (sub_of s)) (fed_as p (sub_of s)) waits in
            is.places (sub_of s) ∙ ap (λ t. cond t None (place_of old (sub_of s))) w.1 ∙ o.places k s at w.0;
        only = λ t k h. only t k (same_sub x t) refl (sym (is.places t) ∙ h);
        due = λ y c. elim (contains_push old.due d y (subst (λ l. Contains l y) list c)) [
          | inl before ↦ still_at (same_sub x) y.place y.fed (o.due y before)
          | inr this ↦ subst (λ (z : Due). gets_at (noted (same_sub x) p gets) subs z.place ≡ Some z.fed) this gets_it
        ];
        once = λ k. ap (λ l. count_by (λ (d : Due). d.place == k) l) list ∙ count_push (λ (d : Due). d.place == k) old.due d
            ∙ (λ i. o.once k i + cond (n == k) 1 0) ∙ once k (slice_get subs k) refl;
      }
    where
      m : (s : Submission) × (slice_get subs n ≡ Some s) × (sub_of s ≡ x) × (awaits gets s ≡ true)
      m = o.only x n found

      named : same_sub x (sub_of m.0) ≡ true
      named = ap (same_sub x) m.2 ∙ same_self x

      gets_it : gets_at (noted (same_sub x) p gets) subs n ≡ Some (fed_as p x)
      gets_it =
          ap (option_and_then (noted (same_sub x) p gets)) m.1
          ∙ gets_now (awaits gets m.0) (same_sub x (sub_of m.0)) (gets m.0) (fed_as p (sub_of m.0)) m.3 named
          ∙ ap (λ t. Some (fed_as p t)) m.2

      only : (t : Sub) (k : ℕ) (b : Bool) → same_sub x t ≡ b → cond b None (place_of old t) ≡ Some k
          → (s : Submission) × (slice_get subs k ≡ Some s) × (sub_of s ≡ t) × (awaits (noted (same_sub x) p gets) s ≡ true)
      only t k true e h = absurd (cc)
      only t k false e h =
          let q = o.only t k h in
          (q.0, q.1, q.2, still_waits q.0.fed (gets q.0) (same_sub x (sub_of q.0)) (fed_as p (sub_of q.0)) q.3 (ap (same_sub x) q.2 ∙ e))

      not_here : (k : ℕ) (v : Option Submission) (b : Bool) → slice_get subs k ≡ v → (n == k) ≡ b
          → ((s : Submission) → v ≡ Some s → sub_of s ≡ x → awaits gets s ≡ true → true ≡ false) → b ≡ false
      not_here k v false at e other = refl
      not_here k v true at e other =
          let same : n ≡ k = grind (arith, nat_tests, e) in
          let there : v ≡ Some m.0 = sym at ∙ ap (slice_get subs) (sym same) ∙ m.1 in
          other m.0 there m.2 m.3

      once_by : (k : ℕ) (s : Submission) (b : Bool) → slice_get subs k ≡ Some s → (awaits gets s && same_sub x (sub_of s)) ≡ b
          → ◌≡◌ {A = ℕ} (cond (is_some (gets s)) 1 0 + cond (n == k) 1 0) (cond (is_some (cond b (Some (fed_as p (sub_of s))) (gets s))) 1 0)
      once_by k s true at e =
          let parts = both_true (awaits gets s) (same_sub x (sub_of s)) e in
          let place : n ≡ k = some_same n k (sym found ∙ ap (place_of old) (from_same_sub x (sub_of s) parts.1) ∙ o.places k s at parts.0) in
          let here : (n == k) ≡ true = grind (arith, nat_tests, place) in
          (λ i. cond (is_some (none_now s.fed (gets s) parts.0 i)) 1 0 + cond (here i) 1 0) ∙ omega arith
      once_by k s false at e =
          let other : (n == k) ≡ false = not_here k (Some s) (n == k) at refl (λ u is' name waits.
          let same : s ≡ u = some_same s u is' in
          yes_no (awaits gets s && same_sub x (sub_of s))
          (ap (λ (z : Submission). awaits gets z && same_sub x (sub_of z)) same ∙ (λ i. waits i && (ap (same_sub x) name ∙ same_self x) i)) e) in
          (λ i. cond (is_some (gets s)) 1 0 + cond (other i) 1 0) ∙ omega arith

      once : (k : ℕ) (v : Option Submission) → slice_get subs k ≡ v
          → ◌≡◌ {A = ℕ} (cond (is_some (option_and_then gets v)) 1 0 + cond (n == k) 1 0)
          (cond (is_some (option_and_then (noted (same_sub x) p gets) v)) 1 0)
      once k None at =
          let other : (n == k) ≡ false = not_here k None (n == k) at refl (λ u is' name waits. none_some u None refl is') in
          ap {B = ℕ} (λ (t : Bool). 0 + cond t 1 0) other
      once k (Some s) at = once_by k s (awaits gets s && same_sub x (sub_of s)) at refl

  pub owes_noted : (e : Option Sub) (new : Owed) → IsNoted e p old new → Owes (noted (is_name e) p gets) subs new
  owes_noted None new is = none_noted None new (λ t n h k. sym h) refl is
  owes_noted (Some x) new is = by (place_of old x) refl
    where
      by : (v : Option ℕ) → place_of old x ≡ v → Owes (noted (is_name (Some x)) p gets) subs new
      by None e =
          none_noted (Some x) new (λ t n h k. none_some n (place_of old x) e (ap (place_of old) (from_same_sub x t h) ∙ k))
          (ap (due_at p x) e) is
      by (Some n) e = one_noted x n new e (ap (due_at p x) e) is
