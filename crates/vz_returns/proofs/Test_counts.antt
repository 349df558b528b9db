-- How many pass a test, where some of them pass no longer.
use Rattle.std.proofs.Common.{◌≡◌, ℕ, ◌+◌, ◌≤◌, Bool, true, false, ◌&&◌, ◌==◌, Option, Some, None, List, [], ◌∷◌, map, find, count_by, refl, ap, subst, arith, cond, Contains}
use Rattle.std.proofs.{lemmas.Bool.Decides.nat_tests, lemmas.Bool.and_right as and_false}
use Rattle.std.specs.List.{list_any}
use Rattle.vz_frame.specs.{declared.frame.Listing.Listing, Frame.lists}
use Rattle.vz_rules.specs.{World.Submission, Kept.borrows}
use Rattle.vz_rules.proofs.{Members.contains_here, Members.contains_there, Members.contains_at, Counts.count_cons, Counts.count_none, Counts.count_at}
use Rattle.vz_returns.specs.{Released.times, Listed.ids_of, Listed.lists_twice, Listed.listed_by}
use Rattle.vz_returns.proofs.{Releases.from_eqb, Listings.or_no, Listings.times_at}

-- one passes where it passes still, or where it passes another test, and not both
abbrev pub IsSplit : Bool → Bool → Bool → Type 0
IsSplit a b c = ◌≡◌ {A = ℕ} (cond a 1 0) (cond b 1 0 + cond c 1 0)

pub split_and : (x a b c : Bool) → IsSplit a b c → IsSplit (x && a) (x && b) (x && c)
split_and true a b c h = h
split_and false a b c h = omega arith

-- each is changed: those that passed pass still or pass another test
pub count_split : {A : Type 0} (f : A → A) (before after ended : A → Bool) (xs : List A)
    → ((x : A) → Contains xs x → IsSplit (before x) (after (f x)) (ended x))
    → count_by before xs ≡ count_by after (map f xs) + count_by ended xs
count_split f before after ended [] h = refl
count_split f before after ended (x ∷ xs) h =
    omega (
      arith,
      count_cons before x xs,
      count_cons after (f x) (map f xs),
      count_cons ended x xs,
      h x (contains_here x xs),
      count_split f before after ended xs (λ y c. h y (contains_there x y xs c)),
    )

-- as many pass tests that say the same of each
pub count_alike : {A : Type 0} (f : A → A) (before after : A → Bool) (xs : List A) → ((x : A) → Contains xs x → after (f x) ≡ before x)
    → count_by after (map f xs) ≡ count_by before xs
count_alike f before after [] h = refl
count_alike f before after (x ∷ xs) h =
    let first : ◌≡◌ {A = ℕ} (cond (after (f x)) 1 0) (cond (before x) 1 0) = ap {B = ℕ} (λ (t : Bool). cond t 1 0)
    (h x (contains_here x xs)) in
    omega (
      arith,
      count_cons before x xs,
      count_cons after (f x) (map f xs),
      first,
      count_alike f before after xs
          (λ y c. h y (contains_there x y xs c)),
    )

pub count_both : {A : Type 0} (before one two : A → Bool) (xs : List A) → ((x : A) → Contains xs x → IsSplit (before x) (one x) (two x))
    → count_by before xs ≡ count_by one xs + count_by two xs
count_both before one two [] h = refl
count_both before one two (x ∷ xs) h =
    omega (
      arith,
      count_cons before x xs,
      count_cons one x xs,
      count_cons two x xs,
      h x (contains_here x xs),
      count_both before one two xs
          (λ y c. h y (contains_there x y xs c)),
    )

none_counted : {A : Type 0} (t : A → Bool) (xs : List A) → count_by t xs ≡ 0 → (x : A) → Contains xs x → t x ≡ false
none_counted t xs none x there = by (t x) refl
  where
    by : (b : Bool) → t x ≡ b → b ≡ false
    by true e = let n = contains_at xs x there in absurd (omega (arith, count_at t xs n.0 x n.1 e, none))
    by false e = refl

-- the one that is found is the only one
pub one_found : {A : Type 0} (b t : A → Bool) (xs : List A) (o : Option A) → count_by t xs ≤ 1 → find t xs ≡ o
    → count_by (λ x. b x && t x) xs ≡ elim o [ Some x ↦ cond (b x) 1 0 | None ↦ 0 ]
one_found b t [] None few e = refl
one_found b t [] (Some y) few e = absurd (cc)
one_found b t (x ∷ xs) o few e = by (t x) refl e (λ q. one_found b t xs o (omega (arith, count_cons t x xs, few)) q)
  where
    first : (a : Bool) → t x ≡ a → ◌≡◌ {A = ℕ} (cond (b x && t x) 1 0) (cond (b x && a) 1 0)
    first a k = ap {B = ℕ} (λ (r : Bool). cond (b x && r) 1 0) k

    is_true : (a : Bool) → ◌≡◌ {A = ℕ} (cond (a && true) 1 0) (cond a 1 0)
    is_true true = refl
    is_true false = refl

    is_false : (a : Bool) → ◌≡◌ {A = ℕ} (cond (a && false) 1 0) 0
    is_false true = refl
    is_false false = refl

    by : (a : Bool) → t x ≡ a → cond a (Some x) (find t xs) ≡ o
        → (find t xs ≡ o → count_by (λ x. b x && t x) xs ≡ elim o [ Some x ↦ cond (b x) 1 0 | None ↦ 0 ])
        → count_by (λ x. b x && t x) (x ∷ xs) ≡ elim o [ Some x ↦ cond (b x) 1 0 | None ↦ 0 ]
    by true k q rest =
        let here : ◌≡◌ {A = ℕ} (cond (t x) 1 0) 1 = ap {B = ℕ} (λ (r : Bool). cond r 1 0) k in
        let none : count_by t xs ≡ 0 = omega (arith, few, count_cons t x xs, here) in
        let left = count_none (λ x. b x && t x) xs (λ y c. and_false (b y) (t y) (none_counted t xs none y c)) in
        let sum : count_by (λ x. b x && t x) (x ∷ xs)
        ≡ cond (b x) 1 0 = omega (arith, count_cons (λ x. b x && t x) x xs, first true k, is_true (b x), left) in
        subst (λ p. count_by (λ x. b x && t x) (x ∷ xs) ≡ elim p [ Some x ↦ cond (b x) 1 0 | None ↦ 0 ]) q sum
    by false k q rest = omega (arith, count_cons (λ x. b x && t x) x xs, first false k, is_false (b x), rest q)

-- Listings

-- a resource that is listed is listed once
pub listed_once : (id : ℕ) (L : List Listing) → lists_twice L ≡ false → ◌≡◌ {A = ℕ} (cond (list_any (lists id) L) 1 0) (times id (ids_of L))
listed_once id [] once = refl
listed_once id (l ∷ L) once = grind (arith, nat_tests, or_no, listed_once id L, from_eqb l.id id, times_at id l.id (ids_of L) true, times_at id l.id (ids_of L) false)

-- the references of a client's resource that a client's submission with these listings holds
unfoldable pub share : ℕ → List Listing → ℕ → ℕ → ℕ
share client L c id = cond (client == c) (times id (ids_of L)) 0

pub one_shares : (client : ℕ) (L : List Listing) (c id : ℕ) (s : Submission) → s.submitted.sub.client ≡ client
    → L ≡ s.submitted.frame.resources → lists_twice L ≡ false
    → ◌≡◌ {A = ℕ} (cond (borrows c id s) 1 0) (share client L c id)
unfolding share
one_shares client L c id s own listed once = grind (arith, nat_tests, listed_once id L once)

pub found_shares : (client : ℕ) (L : List Listing) (c id : ℕ) (o : Option Submission)
    → ((s : Submission) → o ≡ Some s → s.submitted.sub.client ≡ client) → L ≡ listed_by o → lists_twice L ≡ false
    → ◌≡◌ {A = ℕ} (elim o [ Some s ↦ cond (borrows c id s) 1 0 | None ↦ 0 ]) (share client L c id)
unfolding share
found_shares client L c id (Some s) own listed once = one_shares client L c id s (own s refl) listed once
found_shares client L c id None own listed once = grind (arith, nat_tests)

pub share_of_own : (client : ℕ) (L : List Listing) (c id : ℕ) → (client == c) ≡ true → share client L c id ≡ times id (ids_of L)
unfolding share
share_of_own client L c id e = ap {B = ℕ} (λ (t : Bool). cond t (times id (ids_of L)) 0) e

pub share_of_other : (client : ℕ) (L : List Listing) (c id : ℕ) → (client == c) ≡ false → share client L c id ≡ 0
unfolding share
share_of_other client L c id e = ap {B = ℕ} (λ (t : Bool). cond t (times id (ids_of L)) 0) e
