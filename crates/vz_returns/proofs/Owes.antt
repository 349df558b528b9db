-- What is owed is still what is kept, where submissions change and where one more is accepted.
use Rattle.std.proofs.Common.{◌≡◌, ℕ, zero, suc, ◌+◌, Bool, true, false, not, ◌&&◌, ◌==◌, inl, inr, Option, Some, None, is_some, is_none, List, [], ◌∷◌, ◌++◌, length, map, slice_get, Contains, count_by, refl, ap, sym, subst, ◌∙◌, arith, cond}
use Rattle.std.proofs.lemmas.Bool.Decides.{nat_tests}
use Rattle.vz_ids.specs.{declared.Sub.Sub, Ids.same_sub}
use Rattle.vz_rules.specs.{declared.entry.Fed.Fed, World.Submission, World.sub_of}
use Rattle.vz_returns.proofs.Kept.{from_same_sub}
use Rattle.vz_rules.proofs.Members.{at_contains, contains_here, contains_there, contains_none, at_map, at_push}
use Rattle.vz_rules.proofs.Facts.{length_map, map_at}
use Rattle.vz_returns.specs.{declared.due.Due.Due, Notes.IsAdded}
use Rattle.vz_returns.specs.Owed.{Owed, Owes, place_of, awaits, gets_at}
pub use Rattle.std.proofs.lemmas.Bool.{cases_Bool as either}
pub use Rattle.std.proofs.lemmas.Option.{same_Some as some_same}
pub use Rattle.vz_rules.proofs.Kept_rounds.{self_sub as same_self}

pub none_some : {A : Type 0} (x : A) (o : Option A) → o ≡ None → o ≡ Some x → true ≡ false
none_some x None e f = absurd (cc)
none_some x (Some y) e f = absurd (cc)

pub yes_no : (t : Bool) → t ≡ true → t ≡ false → true ≡ false
yes_no t p q = sym p ∙ q

-- where submissions change

pub gets_mapped : (h : Submission → Submission) (gets gets' : Submission → Option Fed) (subs : List Submission)
    → ((s : Submission) → Contains subs s → gets' (h s) ≡ gets s) → (n : ℕ)
    → gets_at gets' (map h subs) n ≡ gets_at gets subs n
gets_mapped h gets gets' [] e n = refl
gets_mapped h gets gets' (s ∷ subs) e zero = e s (contains_here s subs)
gets_mapped h gets gets' (s ∷ subs) e (suc n) = gets_mapped h gets gets' subs (λ t c. e t (contains_there s t subs c)) n

pub owes_mapped : (h : Submission → Submission) (gets gets' : Submission → Option Fed) (subs : List Submission) (f : Owed)
    → ((s : Submission) → sub_of (h s) ≡ sub_of s)
    → ((s : Submission) → (h s).fed ≡ s.fed) → ((s : Submission) → Contains subs s → gets' (h s) ≡ gets s) → Owes gets subs f
    → Owes gets' (map h subs) f
owes_mapped h gets gets' subs f names feds same o =
    let still : (s : Submission) → Contains subs s → awaits gets' (h s) ≡ awaits gets s = λ s c i. not (feds s i) && is_none (same s c i) in
    record {
      accepted = o.accepted ∙ sym (length_map h subs);
      places = λ n t at waits.
          let m = at_map h subs n t at in
          let c = at_contains subs n m.0 m.1 in
          ap (place_of f) (ap (λ (x : Submission). sub_of x) (sym m.2) ∙ names m.0)
          ∙ o.places n m.0 m.1 (sym (still m.0 c) ∙ ap (awaits gets') m.2 ∙ waits);
      only = λ t n found.
          let m = o.only t n found in
          let c = at_contains subs n m.0 m.1 in
          (h m.0, map_at h subs n m.0 m.1, names m.0 ∙ m.2, still m.0 c ∙ m.3);
      due = λ d c. gets_mapped h gets gets' subs same d.place ∙ o.due d c;
      once = λ n. o.once n ∙ ap {B = ℕ} (λ (g : Option Fed). cond (is_some g) 1 0) (sym (gets_mapped h gets gets' subs same n));
    }

-- where they get the same

pub gets_same : (gets gets' : Submission → Option Fed) (subs : List Submission) → ((s : Submission) → Contains subs s → gets' s ≡ gets s)
    → (n : ℕ) → gets_at gets' subs n ≡ gets_at gets subs n
gets_same gets gets' [] e n = refl
gets_same gets gets' (s ∷ subs) e zero = e s (contains_here s subs)
gets_same gets gets' (s ∷ subs) e (suc n) = gets_same gets gets' subs (λ t c. e t (contains_there s t subs c)) n

pub owes_same : (gets gets' : Submission → Option Fed) (subs : List Submission) (f : Owed)
    → ((s : Submission) → Contains subs s → gets' s ≡ gets s) → Owes gets subs f → Owes gets' subs f
owes_same gets gets' subs f same o = grind (arith, nat_tests, at_contains, gets_same)

-- where the same is kept

pub owes_alike : (gets : Submission → Option Fed) (subs : List Submission) (old new : Owed)
    → ((t : Sub) → place_of new t ≡ place_of old t) → new.due ≡ old.due → new.accepted ≡ old.accepted
    → Owes gets subs old → Owes gets subs new
owes_alike gets subs old new places due accepted o = grind (arith, nat_tests)

-- where what is due was given

pub owes_given : (h : Submission → Submission) (gets gets' : Submission → Option Fed) (subs : List Submission) (old new : Owed)
    → ((s : Submission) → sub_of (h s) ≡ sub_of s)
    → ((s : Submission) → awaits gets' (h s) ≡ awaits gets s) → ((s : Submission) → gets' (h s) ≡ None)
    → ((t : Sub) → place_of new t ≡ place_of old t) → new.due ≡ [] → new.accepted ≡ old.accepted → Owes gets subs old
    → Owes gets' (map h subs) new
owes_given h gets gets' subs old new names still none places due accepted o =
    let nothing : (n : ℕ) → gets_at gets' (map h subs) n ≡ None = gets_none subs in
    record {
      accepted = accepted ∙ o.accepted ∙ sym (length_map h subs);
      places = λ n t at waits.
          let m = at_map h subs n t at in
          places (sub_of t) ∙ ap (place_of old) (ap (λ (x : Submission). sub_of x) (sym m.2) ∙ names m.0)
          ∙ o.places n m.0 m.1 (sym (still m.0) ∙ ap (awaits gets') m.2 ∙ waits);
      only = λ t n found.
          let m = o.only t n (sym (places t) ∙ found) in
          (h m.0, map_at h subs n m.0 m.1, names m.0 ∙ m.2, still m.0 ∙ m.3);
      due = λ d c. absurd (contains_none d (subst (λ l. Contains l d) due c));
      once = λ n. ap (λ l. count_by (λ (d : Due). d.place == n) l) due ∙ ap {B = ℕ} (λ (g : Option Fed). cond (is_some g) 1 0) (sym (nothing n));
    }
  where
    gets_none : (subs : List Submission) (n : ℕ) → gets_at gets' (map h subs) n ≡ None
    gets_none [] n = refl
    gets_none (s ∷ subs) zero = none s
    gets_none (s ∷ subs) (suc n) = gets_none subs n

-- where one more is accepted

pub gets_more : (gets : Submission → Option Fed) (subs : List Submission) (s : Submission) → gets s ≡ None → (n : ℕ)
    → gets_at gets (subs ++ s ∷ []) n ≡ gets_at gets subs n
gets_more gets [] s e zero = e
gets_more gets [] s e (suc n) = refl
gets_more gets (x ∷ subs) s e zero = refl
gets_more gets (x ∷ subs) s e (suc n) = gets_more gets subs s e n

first_at : (subs : List Submission) (s : Submission) (n : ℕ) (u : Submission) → slice_get subs n ≡ Some u
    → slice_get (subs ++ s ∷ []) n ≡ Some u
first_at [] s n u h = let no_way : true ≡ false = none_some u None refl h in absurd (cc)
first_at (x ∷ subs) s zero u h = h
first_at (x ∷ subs) s (suc n) u h = first_at subs s n u h

last_at : (subs : List Submission) (s : Submission) → slice_get (subs ++ s ∷ []) (length subs) ≡ Some s
last_at [] s = refl
last_at (x ∷ subs) s = last_at subs s

pub owes_added : (gets : Submission → Option Fed) (subs : List Submission) (s : Submission) (old new : Owed) → gets s ≡ None → s.fed ≡ false
    → ((n : ℕ) (u : Submission) → slice_get subs n ≡ Some u → same_sub (sub_of s) (sub_of u) ≡ false) → IsAdded (sub_of s) old new
    → Owes gets subs old → Owes gets (subs ++ s ∷ []) new
owes_added gets subs s old new none unfed other added o = record {
  accepted = added.accepted ∙ ap (λ n. n + 1) o.accepted ∙ sym (longer subs);
  places = λ n u at waits. elim (at_push subs s n u at) [
    | inl before ↦ added.places (sub_of u) ∙ ap (λ t. cond t (Some old.accepted) (place_of old (sub_of u))) (other n u before.0)
        ∙ o.places n u before.0 waits
    | inr last ↦
        added.places (sub_of u)
        ∙ ap (λ t. cond t (Some old.accepted) (place_of old (sub_of u)))
        (ap (λ (x : Submission). same_sub (sub_of s) (sub_of x)) (sym last.1) ∙ same_self (sub_of s))
        ∙ ap Some (o.accepted ∙ sym last.0)
  ];
  only = λ t n found. elim (either (same_sub (sub_of s) t)) [
    | inl yes' ↦
        let at : old.accepted ≡ n = some_same _ _
        (ap (λ b. cond b (Some old.accepted) (place_of old t)) (sym yes') ∙ sym (added.places t) ∙ found) in
        (s, ap (slice_get (subs ++ s ∷ [])) (sym at ∙ o.accepted) ∙ last_at subs s, from_same_sub (sub_of s) t yes', fresh)
    | inr no' ↦
        let m = o.only t n (ap (λ b. cond b (Some old.accepted) (place_of old t)) (sym no') ∙ sym (added.places t) ∙ found) in
        (m.0, first_at subs s n m.0 m.1, m.2, m.3)
  ];
  due = λ d c. gets_more gets subs s none d.place ∙ o.due d (subst (λ l. Contains l d) added.due c);
  once = λ n. ap (λ l. count_by (λ (d : Due). d.place == n) l) added.due ∙ o.once n
      ∙ ap {B = ℕ} (λ (g : Option Fed). cond (is_some g) 1 0) (sym (gets_more gets subs s none n));
}
  where
    longer : (xs : List Submission) → length (xs ++ s ∷ []) ≡ length xs + 1
    longer [] = refl
    longer (x ∷ xs) = let rest = longer xs in omega (arith, rest)

    fresh : awaits gets s ≡ true
    fresh = λ i. not (unfed i) && is_none (none i)
