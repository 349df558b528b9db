-- Those that were ever made temporary, and those that are there.
use Rattle.std.proofs.Common.{◌≡◌, ℕ, ◌+◌, ◌≤◌, ◌<◌, Bool, true, false, not, ◌&&◌, nat_lt, nat_le, nat_eq, ◌⊎◌, Option, Some, None, is_some, List, [], ◌∷◌, ◌++◌, map, filter, refl, ap, sym, subst, inl, inr, ◌∙◌, arith, cond}
use Rattle.std.specs.List.{list_any, AllByRecursion}
use Rattle.std.proofs.lemmas.Bool.Decides.{nat_tests}
use Rattle.std.proofs.lemmas.List.Folds.{list_any-append}
use Rattle.vz_ids.specs.declared.SurfaceId.{SurfaceId}
use Rattle.vz_frame.specs.Frame.{has_repeat}
use Rattle.vz_refs.specs.declared.seats.Name.{Name}
use Rattle.vz_refs.specs.declared.seats.Seats.{Seats}
use Rattle.vz_refs.specs.declared.temporaries.Named.{Named}
use Rattle.vz_refs.specs.declared.temporaries.Numbers.{Numbers}
use Rattle.vz_refs.specs.Referring.{Temporary}
use Rattle.vz_refs.specs.Lasting.{same_name, surface_in, IsEnded, Ends, IsRid, over_at, temporary_of, lasting_in, numbers_or, AreWithin, IsGiven, IsKept}
use Rattle.vz_rules.proofs.Marking.{stays_once}
use Rattle.vz_refs.proofs.Named.{from_name, self_name, was_there}
use Rattle.std.proofs.lemmas.Option.{same_Some as some_inj}

-- What is seen of those that are there

-- each element of the first list is there in the second test where it is in the first and passes
left_in : (first second : Name → Option SurfaceId) (test : Temporary → Bool) (ever : List Named)
    → AllByRecursion (λ e. is_some (second e.name) ≡ (is_some (first e.name) && not (test (temporary_of e)))) ever
    → lasting_in second ever ≡ filter (λ t. not (test t)) (lasting_in first ever)
unfolding lasting_in
left_in first second test [] all = refl
left_in first second test (e ∷ ever) all = grind (arith, nat_tests, left_in first second test ever all.1)

-- a fact of each is made into another one
all_map : (P Q : Named → Type 0) → ((e : Named) → P e → Q e) → (ever : List Named) → AllByRecursion P ever → AllByRecursion Q ever
all_map P Q f [] all = all
all_map P Q f (e ∷ ever) all = (f e all.0, all_map P Q f ever all.1)

all_more : (P : Named → Type 0) (ever : List Named) (e : Named) → AllByRecursion P ever → P e → AllByRecursion P (ever ++ e ∷ [])
all_more P [] e all one = (one, all)
all_more P (x ∷ ever) e all one = (all.0, all_more P ever e all.1 one)

module _ (over : Name → SurfaceId → Bool) (a b : Seats) (ends : Ends over a b) where
  -- a surface that is gone, or its own
  still_right : (e : Named) → ((surface_in a e.name ≡ None) ⊎ (surface_in a e.name ≡ Some e.id)) → ((surface_in b e.name ≡ None) ⊎ (surface_in b e.name ≡ Some e.id))
  still_right e (inl h) = inl (ends.no_more e.name h)
  still_right e (inr h) = by_ended (surface_in b e.name) refl (ends.surfaces e.name e.id h)
    where
      by_ended : (o : Option SurfaceId) → surface_in b e.name ≡ o → IsEnded (over e.name e.id) (Some e.id) o → ((surface_in b e.name ≡ None) ⊎ (surface_in b e.name ≡ Some e.id))
      by_ended o is (inl f) = inr (is ∙ f)
      by_ended o is (inr f) = inl (is ∙ f.1)

  -- one that is there was there
  pub some_was : (n : Name) → is_some (surface_in b n) ≡ true → is_some (surface_in a n) ≡ true
  some_was n h = grind (arith, nat_tests, was_there over a b ends n)

  pub kept_after : (numbers : ℕ → Option Numbers) (given : ℕ) (ever : List Named) → IsKept (surface_in a) numbers given ever → IsKept (surface_in b) numbers given ever
  kept_after numbers given ever kept = record {
    each = all_map (IsGiven (surface_in a) numbers given) (IsGiven (surface_in b) numbers given) (λ e g. record { right = still_right e g.right; fresh = g.fresh }) ever kept.each;
    known = λ n h. kept.known n (some_was n h);
    once = kept.once;
    within = λ n h. kept.within n (some_was n h);
    few = kept.few;
  }

  -- those that are left
  pub left_after : (test : Temporary → Bool) → ((e : Named) → over e.name e.id ≡ test (temporary_of e)) → IsRid over b
      → (numbers : ℕ → Option Numbers) (given : ℕ) (ever : List Named) → IsKept (surface_in a) numbers given ever → lasting_in (surface_in b) ever ≡ filter (λ t. not (test t)) (lasting_in (surface_in a) ever)
  left_after test agree rid numbers given ever kept =
      left_in (surface_in a) (surface_in b) test ever (all_map (IsGiven (surface_in a) numbers given) _ (λ e g. one e g.right) ever kept.each)
    where
      by_ended : (e : Named) (o : Option SurfaceId) → surface_in b e.name ≡ o → surface_in a e.name ≡ Some e.id → IsEnded (over e.name e.id) (Some e.id) o
          → is_some (surface_in b e.name) ≡ (is_some (surface_in a e.name) && not (test (temporary_of e)))
      by_ended e o is h (inl f) =
          ap is_some (is ∙ f) ∙ sym (ap (λ t. t && not (test (temporary_of e))) (ap is_some h) ∙ ap not (sym (agree e) ∙ rid e.name e.id (is ∙ f)))
      by_ended e o is h (inr f) =
          ap is_some (is ∙ f.1) ∙ sym (ap (λ t. t && not (test (temporary_of e))) (ap is_some h) ∙ ap not (sym (agree e) ∙ f.0))

      one : (e : Named) → ((surface_in a e.name ≡ None) ⊎ (surface_in a e.name ≡ Some e.id)) → is_some (surface_in b e.name) ≡ (is_some (surface_in a e.name) && not (test (temporary_of e)))
      one e (inl h) = ap is_some (ends.no_more e.name h) ∙ sym (ap (λ t. t && not (test (temporary_of e))) (ap is_some h))
      one e (inr h) = by_ended e (surface_in b e.name) refl h (ends.surfaces e.name e.id h)

-- the same where surfaces and numbers are the same
pub kept_same : (surface surface' : Name → Option SurfaceId) (numbers numbers' : ℕ → Option Numbers) (given : ℕ) (ever : List Named) → IsKept surface numbers given ever
    → ((n : Name) → surface' n ≡ surface n) → ((u : ℕ) → numbers' u ≡ numbers u) → IsKept surface' numbers' given ever
kept_same surface surface' numbers numbers' given ever kept is same = grind (arith, nat_tests)

-- numbers until earlier ticks go, where nothing lasts until one of them
pub kept_later : (tick : ℕ) (s : Seats) (numbers numbers' : ℕ → Option Numbers) (given : ℕ) (ever : List Named) → IsKept (surface_in s) numbers given ever → IsRid (over_at tick) s
    → ((u : ℕ) → numbers' u ≡ cond (nat_lt tick u) (numbers u) None) → IsKept (surface_in s) numbers' given ever
kept_later tick s numbers numbers' given ever kept rid is = record {
  each = all_map (IsGiven (surface_in s) numbers given) (IsGiven (surface_in s) numbers' given) (λ e g. record { right = g.right; fresh = fresh e g.fresh }) ever kept.each;
  known = kept.known;
  once = kept.once;
  within = λ n h. within n h (surface_in s n) refl h;
  few = λ u all h. kept.few u all (had u all (nat_lt tick u) (sym (is u) ∙ h));
}
  where
    had : (u : ℕ) (all : Numbers) (t : Bool) → cond t (numbers u) None ≡ Some all → numbers u ≡ Some all
    had u all true h = h
    had u all false h = absurd (cc)

    no_less : (u : ℕ) (o : Option Numbers) → numbers u ≡ o → (numbers_or given o).next ≤ given
    no_less u None e = omega arith
    no_less u (Some all) e = (kept.few u all e).1

    behind : (u m : ℕ) (t : Bool) → m < (numbers_or given (numbers u)).next → m < (numbers_or given (cond t (numbers u) None)).next
    behind u m true h = h
    behind u m false h = let few = no_less u (numbers u) refl in omega (arith, h, few)

    fresh : (e : Named) → e.name.number < (numbers_or given (numbers e.name.until)).next → e.name.number < (numbers_or given (numbers' e.name.until)).next
    fresh e h = subst (λ (o : Option Numbers). e.name.number < (numbers_or given o).next) (sym (is e.name.until)) (behind e.name.until e.name.number (nat_lt tick e.name.until) h)

    later : (u : ℕ) → nat_le u tick ≡ false → nat_lt tick u ≡ true
    later u h = grind (arith, nat_tests)

    within : (n : Name) → is_some (surface_in s n) ≡ true → (o : Option SurfaceId) → surface_in s n ≡ o → is_some o ≡ true → (all : Numbers) × (numbers' n.until ≡ Some all) × (all.first ≤ n.number) × (n.number < all.next)
    within n h None e f = absurd (cc)
    within n h (Some d) e f =
        let old = kept.within n h in
        (old.0, is n.until ∙ ap (λ t. cond t (numbers n.until) None) (later n.until (rid n d e)) ∙ old.1, old.2, old.3)

-- One more

module _ (surface : Name → Option SurfaceId) (numbers : ℕ → Option Numbers) (given : ℕ) (ever : List Named) (kept : IsKept surface numbers given ever)
    (id : SurfaceId) (until : ℕ) where
  abbrev all : Numbers
  all = numbers_or given (numbers until)

  abbrev name : Name
  name = record { until = until; number = all.next }

  -- no one that ever was has the name
  never : (es : List Named) → AllByRecursion (IsGiven surface numbers given) es → list_any (same_name name) (map (λ e. e.name) es) ≡ false
  never [] every = refl
  never (e ∷ es) every = grind (arith, nat_tests, never es every.1, from_name name e.name)

  module _ (surface' : Name → Option SurfaceId) (is : (n : Name) → surface' n ≡ cond (same_name name n) (Some id) (surface n))
      (numbers' : ℕ → Option Numbers) (has : (u : ℕ) → numbers' u ≡ cond (nat_eq until u) (Some (record { first = all.first; next = all.next + 1 })) (numbers u)) where
    abbrev new : Named
    new = record { name = name; id = id }

    other_name : (e : Named) → e.name.number < (numbers_or given (numbers e.name.until)).next → same_name name e.name ≡ false
    other_name e low = grind (arith, nat_tests, from_name name e.name)

    front_low : all.first ≤ all.next
    front_low = grind (arith, nat_tests)

    from_tick : (u : ℕ) → nat_eq until u ≡ true → until ≡ u
    from_tick u h = grind (arith, nat_tests)

    own_numbers : numbers' until ≡ Some (record { first = all.first; next = all.next + 1 })
    own_numbers = has until ∙ ap (λ t. cond t (Some (record { first = all.first; next = all.next + 1 })) (numbers until)) (let own : nat_eq until until ≡ true = grind (arith, nat_tests) in own)

    own_surface : surface' name ≡ Some id
    own_surface = is name ∙ ap (λ t. cond t (Some id) (surface name)) (self_name name)

    old_surface : (e : Named) → e.name.number < (numbers_or given (numbers e.name.until)).next → surface' e.name ≡ surface e.name
    old_surface e low = is e.name ∙ ap (λ t. cond t (Some id) (surface e.name)) (other_name e low)

    old_given : (e : Named) → IsGiven surface numbers given e → IsGiven surface' numbers' (given + 1) e
    old_given e g = grind (arith, nat_tests, from_tick, old_surface e g.fresh)

    new_given : IsGiven surface' numbers' (given + 1) new
    new_given = record { right = inr own_surface; fresh = subst (λ (o : Option Numbers). all.next < (numbers_or (given + 1) o).next) (sym own_numbers) (omega arith) }

    names_more : (es : List Named) → map (λ e. e.name) (es ++ new ∷ []) ≡ map (λ e. e.name) es ++ name ∷ []
    names_more [] = refl
    names_more (e ∷ es) = ap (λ l. e.name ∷ l) (names_more es)

    more_known : (n : Name) → is_some (surface' n) ≡ true → list_any (same_name n) (map (λ e. e.name) (ever ++ new ∷ [])) ≡ true
    more_known n h = grind (arith, nat_tests, names_more ever, list_any-append (same_name n), from_name name n, self_name n)

    more_once : has_repeat same_name (map (λ e. e.name) (ever ++ new ∷ [])) ≡ false
    more_once =
        ap (has_repeat same_name) (names_more ever)
        ∙ sym (ap (λ t. has_repeat same_name (cond t (map (λ (e : Named). e.name) ever) (map (λ e. e.name) ever ++ name ∷ []))) (never ever kept.each))
        ∙ stays_once same_name from_name self_name (name ∷ []) (map (λ e. e.name) ever) kept.once

    more_within : AreWithin surface' numbers'
    more_within n h = grind (arith, nat_tests, from_tick n.until, own_numbers, from_name name n, front_low)

    more_few : (u : ℕ) (x : Numbers) → numbers' u ≡ Some x → (x.first ≤ x.next) × (x.next ≤ given + 1)
    more_few u x h = grind (arith, nat_tests, some_inj, front_low)

    pub more_kept : IsKept surface' numbers' (given + 1) (ever ++ new ∷ [])
    more_kept = record {
      each = all_more (IsGiven surface' numbers' (given + 1)) ever new (all_map (IsGiven surface numbers given) _ old_given ever kept.each) new_given;
      known = more_known;
      once = more_once;
      within = more_within;
      few = more_few;
    }

    pub more_list : lasting_in surface' (ever ++ new ∷ []) ≡ lasting_in surface ever ++ temporary_of new ∷ []
    unfolding lasting_in
    more_list = by_recursion ever kept.each
      where
        by_recursion : (es : List Named) → AllByRecursion (IsGiven surface numbers given) es
            → map temporary_of (filter (λ e. is_some (surface' e.name)) (es ++ new ∷ [])) ≡ map temporary_of (filter (λ e. is_some (surface e.name)) es) ++ temporary_of new ∷ []
        by_recursion [] every = ap (λ o. map temporary_of (cond (is_some o) (new ∷ []) [])) own_surface
        by_recursion (e ∷ es) every =
            ap (λ o. map temporary_of (cond (is_some o) (e ∷ filter (λ e. is_some (surface' e.name)) (es ++ new ∷ [])) (filter (λ e. is_some (surface' e.name)) (es ++ new ∷ [])))) (old_surface e every.0.fresh)
            ∙ by_test (is_some (surface e.name)) (by_recursion es every.1)
          where
            by_test : (t : Bool) → map temporary_of (filter (λ e. is_some (surface' e.name)) (es ++ new ∷ [])) ≡ map temporary_of (filter (λ e. is_some (surface e.name)) es) ++ temporary_of new ∷ []
                → map temporary_of (cond t (e ∷ filter (λ e. is_some (surface' e.name)) (es ++ new ∷ [])) (filter (λ e. is_some (surface' e.name)) (es ++ new ∷ [])))
                ≡ map temporary_of (cond t (e ∷ filter (λ e. is_some (surface e.name)) es) (filter (λ e. is_some (surface e.name)) es)) ++ temporary_of new ∷ []
            by_test true rest = ap (λ l. temporary_of e ∷ l) rest
            by_test false rest = rest

  -- Where the numbers have a name of their own

  module _ (x : Numbers) (own : x ≡ all) (surface' : Name → Option SurfaceId) (is : (n : Name) → surface' n ≡ cond (same_name (record { until = until; number = x.next }) n) (Some id) (surface n))
      (numbers' : ℕ → Option Numbers) (has : (u : ℕ) → numbers' u ≡ cond (nat_eq until u) (Some (record { first = x.first; next = x.next + 1 })) (numbers u))
      (ever' : List Named) (shown : ever' ≡ ever ++ record { name = record { until = until; number = x.next }; id = id } ∷ []) where
    is_in : (n : Name) → surface' n ≡ cond (same_name name n) (Some id) (surface n)
    is_in n = is n ∙ ap (λ (x : Numbers). cond (same_name (record { until = until; number = x.next }) n) (Some id) (surface n)) own

    has_in : (u : ℕ) → numbers' u ≡ cond (nat_eq until u) (Some (record { first = all.first; next = all.next + 1 })) (numbers u)
    has_in u = has u ∙ ap (λ (x : Numbers). cond (nat_eq until u) (Some (record { first = x.first; next = x.next + 1 })) (numbers u)) own

    shown_in : ever' ≡ ever ++ record { name = name; id = id } ∷ []
    shown_in = shown ∙ ap (λ (x : Numbers). ever ++ record { name = record { until = until; number = x.next }; id = id } ∷ []) own

    pub more_kept_in : IsKept surface' numbers' (given + 1) ever'
    more_kept_in = subst (λ (l : List Named). IsKept surface' numbers' (given + 1) l) (sym shown_in) (more_kept surface' is_in numbers' has_in)

    pub more_list_in : lasting_in surface' ever' ≡ lasting_in surface ever ++ record { id = id; until = until } ∷ []
    more_list_in = ap (lasting_in surface') shown_in ∙ more_list surface' is_in numbers' has_in
