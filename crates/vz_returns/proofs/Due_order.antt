-- What is due, by places, is the feedback given now in the order of acceptance.
use Rattle.std.proofs.Common.{◌≡◌, ℕ, suc, ◌+◌, ◌-◌, ◌≤◌, ◌<◌, Bool, true, false, ◌==◌, inl, inr, Option, Some, None, is_some, List, [], ◌∷◌, map, Contains, count_by, filter_map, IsPermutation, refl, ap, sym, subst, ◌∙◌, arith, cond}
use Rattle.std.specs.{List.cons_option, List.Sorted.IsNonDecreasingBy}
use Rattle.std.proofs.lemmas.Bool.Decides.{nat_tests}
use Rattle.std.proofs.lemmas.List.Sorted.{Contains-permutation, IsPermutation-sym, sum_by-IsPermutation}
use Rattle.vz_rules.specs.{declared.entry.Fed.Fed, World.Submission}
use Rattle.vz_rules.proofs.Members.{contains_here, contains_there, contains_cases, contains_none}
use Rattle.vz_rules.proofs.Counts.{count_cons, count_none}
use Rattle.vz_returns.specs.{declared.due.Due.Due, Owed.Owed, Owed.Owes, Owed.gets_at}
use Rattle.vz_returns.proofs.Owes.{some_same}

-- one that stands in a list counts
counted : (list : List Due) (d : Due) → Contains list d → 1 ≤ count_by (λ (x : Due). x.place == d.place) list
counted [] d c = absurd (contains_none d c)
counted (x ∷ list) d c =
    let split = count_cons (λ (y : Due). y.place == d.place) x list in
    elim (contains_cases x d list c) [
      | inl e ↦
          let own : (x.place == d.place) ≡ true = grind (arith, nat_tests, ap (λ (y : Due). y.place) e) in
          let one : ◌≡◌ {A = ℕ} (cond (x.place == d.place) 1 0) 1 = ap {B = ℕ} (λ (t : Bool). cond t 1 0) own in
          omega (arith, split, one)
      | inr r ↦ let rest = counted list d r in omega (arith, split, rest)
    ]

first_least : (d : Due) (list : List Due) (x : Due) → IsNonDecreasingBy (λ (y : Due). y.place) (d ∷ list) → Contains list x
    → d.place ≤ x.place
first_least d list x rises c =
    let less = rises 0 (suc c.0) x (omega arith) (omega (arith, c.1)) in
    subst (λ (y : Due). d.place ≤ y.place) c.2 less

rest_rises : (d : Due) (list : List Due) → IsNonDecreasingBy (λ (y : Due). y.place) (d ∷ list)
    → IsNonDecreasingBy (λ (y : Due). y.place) list
rest_rises d list rises i j e l h = rises (suc i) (suc j) e (omega (arith, l)) (omega (arith, h))

-- a list of what the submissions from a place on get, each once
record AreGiven (gets : Submission → Option Fed) (from : ℕ) (subs : List Submission) (list : List Due) : Type 0 where
  rises : IsNonDecreasingBy (λ (d : Due). d.place) list
  above : (d : Due) → Contains list d → from ≤ d.place
  once : (k : ℕ) → count_by (λ (d : Due). d.place == from + k) list ≡ cond (is_some (gets_at gets subs k)) 1 0
  own : (d : Due) (k : ℕ) → Contains list d → d.place ≡ from + k → gets_at gets subs k ≡ Some d.fed

none_given : (gets : Submission → Option Fed) (from : ℕ) (d : Due) (list : List Due) → AreGiven gets from [] (d ∷ list) → true ≡ false
none_given gets from d list g =
    let least = g.above d (contains_here d list) in
    let at : d.place ≡ from + (d.place - from) = omega (arith, least) in
    let found = g.own d (d.place - from) (contains_here d list) at in
    absurd (cc)

-- the first submission gets none
step_none : (gets : Submission → Option Fed) (from : ℕ) (s : Submission) (subs : List Submission) (list : List Due) → gets s ≡ None
    → AreGiven gets from (s ∷ subs) list → AreGiven gets (from + 1) subs list
step_none gets from s subs list none g = record {
  rises = g.rises;
  above = λ d c. above d c (from == d.place) refl;
  once = λ k. (λ i. count_by (λ (d : Due). d.place == shift k i) list) ∙ g.once (suc k);
  own = λ d k c e. g.own d (suc k) c (e ∙ shift k);
}
  where
    shift : (k : ℕ) → from + 1 + k ≡ from + suc k
    shift k = omega arith

    above : (d : Due) → Contains list d → (b : Bool) → (from == d.place) ≡ b → from + 1 ≤ d.place
    above d c true e =
        let same : d.place ≡ from + 0 = grind (arith, nat_tests, e) in
        let found = sym none ∙ g.own d 0 c same in
        absurd (cc)
    above d c false e = let least = g.above d c in grind (arith, nat_tests, e, least)

-- the first submission gets some, which stands first
step_some : (gets : Submission → Option Fed) (from : ℕ) (s : Submission) (subs : List Submission) (d : Due) (list : List Due)
    → d.place ≡ from → AreGiven gets from (s ∷ subs) (d ∷ list) → AreGiven gets (from + 1) subs list
step_some gets from s subs d list at g = record {
  rises = rest_rises d list g.rises;
  above = λ x c. above x c (from == x.place) refl;
  once = λ k. once k;
  own = λ x k c e. g.own x (suc k) (contains_there d x list c) (e ∙ shift k);
}
  where
    shift : (k : ℕ) → from + 1 + k ≡ from + suc k
    shift k = omega arith

    own_place : (d.place == from + 0) ≡ true
    own_place = grind (arith, nat_tests, at)

    few : (g' : Option Fed) → ◌≤◌ (cond (is_some g') 1 0) 1
    few None = omega arith
    few (Some y) = omega arith

    above : (x : Due) → Contains list x → (b : Bool) → (from == x.place) ≡ b → from + 1 ≤ x.place
    above x c false e = let least = g.above x (contains_there d x list c) in grind (arith, nat_tests, e, least)
    above x c true e =
        let same : x.place ≡ from + 0 = grind (arith, nat_tests, e) in
        let all = g.once 0 in
        let split = count_cons (λ (y : Due). y.place == from + 0) d list in
        let one : ◌≡◌ {A = ℕ} (cond (d.place == from + 0) 1 0) 1 = ap {B = ℕ} (λ (t : Bool). cond t 1 0) own_place in
        let more : 1 ≤ count_by (λ (y : Due). y.place == from + 0) list = subst (λ n. 1 ≤ count_by (λ (y : Due). y.place == n) list) same
        (counted list x c) in
        let most = few (gets_at gets (s ∷ subs) 0) in
        absurd (omega (arith, all, split, one, more, most))

    once : (k : ℕ) → count_by (λ (y : Due). y.place == from + 1 + k) list ≡ cond (is_some (gets_at gets subs k)) 1 0
    once k =
        let other : (d.place == from + suc k) ≡ false = grind (arith, nat_tests, at) in
        let none : ◌≡◌ {A = ℕ} (cond (d.place == from + suc k) 1 0) 0 = ap {B = ℕ} (λ (t : Bool). cond t 1 0) other in
        let split = count_cons (λ (y : Due). y.place == from + suc k) d list in
        let all = g.once (suc k) in
        let there = λ (l : List Due). count_by (λ (y : Due). y.place == from + suc k) l in
        let same : there list ≡ there (d ∷ list) = omega (arith, split, none) in
        (λ i. count_by (λ (y : Due). y.place == shift k i) list) ∙ same ∙ all

-- the first submission gets some: it is the first one that is due
first_given : (gets : Submission → Option Fed) (from : ℕ) (s : Submission) (subs : List Submission) (d : Due) (list : List Due) (x : Fed)
    → gets s ≡ Some x → AreGiven gets from (s ∷ subs) (d ∷ list) → d.place ≡ from
first_given gets from s subs d list x some g = by (d.place == from) refl
  where
    none_there : (xs : List Due) → ((y : Due) → Contains xs y → (y.place == from + 0) ≡ false)
        → count_by (λ (y : Due). y.place == from + 0) xs ≡ 0
    none_there xs h = count_none (λ (y : Due). y.place == from + 0) xs h

    by : (b : Bool) → (d.place == from) ≡ b → d.place ≡ from
    by true e = grind (arith, nat_tests, e)
    by false e =
        let least = g.above d (contains_here d list) in
        let past : from < d.place = grind (arith, nat_tests, e, least) in
        let none = none_there (d ∷ list) (λ y c. elim (contains_cases d y list c) [
          | inl same ↦ let at = ap (λ (z : Due). z.place) same in grind (arith, nat_tests, past, at)
          | inr r ↦ let more = first_least d list y g.rises r in grind (arith, nat_tests, past, more)
        ]) in
        let one : ◌≡◌ {A = ℕ} (cond (is_some (gets s)) 1 0) 1 = ap {B = ℕ} (λ (o : Option Fed). cond (is_some o) 1 0) some in
        let all = g.once 0 in
        absurd (omega (arith, none, one, all))

nothing_given : (gets : Submission → Option Fed) (from : ℕ) (s : Submission) (subs : List Submission) (x : Fed) → gets s ≡ Some x
    → AreGiven gets from (s ∷ subs) [] → true ≡ false
nothing_given gets from s subs x some g =
    let one : ◌≡◌ {A = ℕ} (cond (is_some (gets s)) 1 0) 1 = ap {B = ℕ} (λ (o : Option Fed). cond (is_some o) 1 0) some in
    let all = g.once 0 in
    absurd (omega (arith, one, all))

in_order_given : (gets : Submission → Option Fed) (from : ℕ) (subs : List Submission) (list : List Due) → AreGiven gets from subs list
    → map (λ (d : Due). d.fed) list ≡ filter_map gets subs
in_order_given gets from [] [] g = refl
in_order_given gets from [] (d ∷ list) g = let no_way : true ≡ false = none_given gets from d list g in absurd (cc)
in_order_given gets from (s ∷ subs) list g = by (λ l. in_order_given gets (from + 1) subs l) (gets s) refl list g
  where
    by : ((list : List Due) → AreGiven gets (from + 1) subs list → map (λ (d : Due). d.fed) list ≡ filter_map gets subs)
        → (v : Option Fed) → gets s ≡ v → (list : List Due) → AreGiven gets from (s ∷ subs) list
        → map (λ (d : Due). d.fed) list ≡ filter_map gets (s ∷ subs)
    by others None e list g = others list (step_none gets from s subs list e g) ∙ ap (λ v. cons_option v (filter_map gets subs)) (sym e)
    by others (Some x) e [] g = let no_way : true ≡ false = nothing_given gets from s subs x e g in absurd (cc)
    by others (Some x) e (d ∷ list) g =
        let at : d.place ≡ from = first_given gets from s subs d list x e g in
        let own : Some x ≡ Some d.fed = sym e ∙ g.own d 0 (contains_here d list) (omega (arith, at)) in
        let rest = others list (step_some gets from s subs d list at g) in
        (λ i. some_same d.fed x (sym own) i ∷ rest i) ∙ ap (λ v. cons_option v (filter_map gets subs)) (sym e)

pub fed_in_order : (gets : Submission → Option Fed) (subs : List Submission) (f : Owed) (list : List Due) → Owes gets subs f
    → IsPermutation f.due list → IsNonDecreasingBy (λ (d : Due). d.place) list
    → map (λ (d : Due). d.fed) list ≡ filter_map gets subs
fed_in_order gets subs f list o same rises =
    in_order_given gets 0 subs list (record {
      rises = rises;
      above = λ d c. omega arith;
      once = λ k. (λ i. count_by (λ (d : Due). d.place == from_zero k i) list) ∙ sum_by-IsPermutation
          (λ (d : Due). cond (d.place == k) 1 0) f.due list same ∙ o.once k;
      own = λ d k c e. ap (gets_at gets subs) (sym (e ∙ from_zero k)) ∙ o.due d
          (Contains-permutation list f.due d (IsPermutation-sym f.due list same) c);
    })
  where
    from_zero : (k : ℕ) → 0 + k ≡ k
    from_zero k = omega arith
