-- Totals over the views, prefixes of the list of entries, and places in it.
use Rattle.std.proofs.Common.{◌≡◌, ◌≢◌, ℕ, zero, suc, ◌+◌, ◌<◌, ◌≤◌, ◌⊎◌, Bool, true, false, cond, eqb, ltb, List, [], ◌∷◌, ◌++◌, length, set, sym, refl, ap, ◌∙◌, arith, append_assoc, append-nil, eq-eqb, ne_eqb, length-append}
use mathlib.Core.Logic.{dite}
use mathlib.Core.List.{IsPrefix}
use mathlib.Core.Option.{some, some-injective, some-ne-none}
use native.Mathlib.Decide.{ℕ_discrete}
use lib.ListN.{get_elem?}
use Rattle.std.specs.Prelude.{Option, Some, IfSome}
use Rattle.vz_loans.specs.Rule.{Log, Claim, places, places_from, Old, AllOld, AllTell, claims_of, numbers_from, blank, retold, total, weight, first_of, others_of, longer}
use Rattle.std.proofs.lemmas.Bool.Decides.{nat_tests}

module _ {A : Type 0} where
  pub set_at : (l : List A) (i : ℕ) (v w : A) → get_elem? l i ≡ some v → get_elem? (set l i w) i ≡ some w
  set_at [] i v w e = absurd (some-ne-none v (sym e))
  set_at (x ∷ xs) zero v w e = refl
  set_at (x ∷ xs) (suc i) v w e = set_at xs i v w e

  pub one_view : (l : List A) (i : ℕ) (v w : A) → get_elem? l i ≡ some v → get_elem? l i ≡ some w → v ≡ w
  one_view l i v w a b = some-injective v w (sym a ∙ b)

  module _ (f : A → ℕ) where
    pub total_set : (l : List A) (i : ℕ) (v w : A) → get_elem? l i ≡ some v → total f (set l i w) + f v ≡ total f l + f w
    total_set [] i v w e = absurd (some-ne-none v (sym e))
    total_set (x ∷ xs) zero v w e = let is : f x ≡ f v = ap f (some-injective x v e) in omega arith
    total_set (x ∷ xs) (suc i) v w e = let r = total_set xs i v w e in omega arith

    pub total_snoc : (l : List A) (w : A) → total f (l ++ w ∷ []) ≡ total f l + f w
    total_snoc [] w = omega arith
    total_snoc (x ∷ xs) w = let r = total_snoc xs w in omega arith

    pub one_of : (l : List A) (i : ℕ) (v : A) → get_elem? l i ≡ some v → f v ≤ total f l
    one_of [] i v e = absurd (some-ne-none v (sym e))
    one_of (x ∷ xs) zero v e = let is : f x ≡ f v = ap f (some-injective x v e) in omega arith
    one_of (x ∷ xs) (suc i) v e = let r = one_of xs i v e in omega arith

    -- where the total is something, some view has something
    pub some_of : (l : List A) → 0 < total f l → (j : ℕ) × (v : A) × (get_elem? l j ≡ some v) × (0 < f v)
    some_of [] h = absurd (omega arith)
    some_of (x ∷ xs) h = dite (ℕ_discrete (f x) 0)
        (λ none. let r = some_of xs (omega (arith, none, h)) in (suc r.0, r.1, r.2, r.3))
        (λ ne. (zero, x, refl, omega (arith, ne)))

    pub two_of : (l : List A) (i j : ℕ) (v w : A) → j ≢ i → get_elem? l i ≡ some v → get_elem? l j ≡ some w → f v + f w ≤ total f l
    two_of [] i j v w ne e h = absurd (some-ne-none v (sym e))
    two_of (x ∷ xs) zero zero v w ne e h = absurd (ne refl)
    two_of (x ∷ xs) zero (suc j) v w ne e h = let is : f x ≡ f v = ap f (some-injective x v e) in let r = one_of xs j w h in omega arith
    two_of (x ∷ xs) (suc i) zero v w ne e h = let is : f x ≡ f w = ap f (some-injective x w h) in let r = one_of xs i v e in omega arith
    two_of (x ∷ xs) (suc i) (suc j) v w ne e h = let r = two_of xs i j v w (λ k. ne (ap suc k)) e h in omega arith

  module _ (f g : A → ℕ) where
    pub total_le : (l : List A) → ((j : ℕ) (v : A) → get_elem? l j ≡ some v → f v ≤ g v) → total f l ≤ total g l
    total_le [] h = omega arith
    total_le (x ∷ xs) h = let a : f x ≤ g x = h zero x refl in let r = total_le xs (λ j v e. h (suc j) v e) in omega arith

    pub total_gap : (l : List A) (i : ℕ) (v : A) → get_elem? l i ≡ some v → ((j : ℕ) (u : A) → get_elem? l j ≡ some u → f u ≤ g u) → total f l + g v ≤ total g l + f v
    total_gap [] i v e h = absurd (some-ne-none v (sym e))
    total_gap (x ∷ xs) zero v e h = let is : f x ≡ f v = ap f (some-injective x v e) in let is' : g x ≡ g v = ap g (some-injective x v e) in
        let r = total_le xs (λ j u e. h (suc j) u e) in omega arith
    total_gap (x ∷ xs) (suc i) v e h = let a : f x ≤ g x = h zero x refl in let r = total_gap xs i v e (λ j u e. h (suc j) u e) in omega arith

  pub prefix_all : (xs ys : List A) → xs ≡ ys → IsPrefix xs ys
  prefix_all xs ys e = ([], append-nil xs ∙ e)

  pub prefix_more : (xs ys more : List A) → IsPrefix xs ys → IsPrefix xs (ys ++ more)
  prefix_more xs ys more p = (p.0 ++ more, sym (append_assoc xs p.0 more) ∙ ap (λ (l : List A). l ++ more) p.1)

module _ {P : Type 0} where
  pub replan : (a b : Option P) → ((p : P) → a ≡ Some p → b ≡ Some p) → (o : Option P) → IfSome o (λ p. a ≡ Some p) → IfSome o (λ p. b ≡ Some p)
  replan a b on o h = grind (arith, nat_tests)

module _ {P E : Type 0} where
  pub olds_more : (a b : Option P) (on : (p : P) → a ≡ Some p → b ≡ Some p) (os : List (Old P E)) (ys more : Log E) → AllOld a os ys → AllOld b os (ys ++ more)
  olds_more a b on [] ys more h = tt
  olds_more a b on (o ∷ os) ys more h = (replan a b on o.0 h.0, (prefix_more o.1 ys more h.1.0, olds_more a b on os ys more h.1.1))

  pub olds_append : (a : Option P) (os ps : List (Old P E)) (ys : Log E) → AllOld a os ys → AllOld a ps ys → AllOld a (os ++ ps) ys
  olds_append a [] ps ys x y = y
  olds_append a (o ∷ os) ps ys x y = (x.0, (x.1.0, olds_append a os ps ys x.1.1 y))

  pub olds_left : (a : Option P) (os ps : List (Old P E)) (ys : Log E) → AllOld a (os ++ ps) ys → AllOld a os ys
  olds_left a [] ps ys h = tt
  olds_left a (o ∷ os) ps ys h = (h.0, (h.1.0, olds_left a os ps ys h.1.1))

  pub olds_right : (a : Option P) (os ps : List (Old P E)) (ys : Log E) → AllOld a (os ++ ps) ys → AllOld a ps ys
  olds_right a [] ps ys h = h
  olds_right a (o ∷ os) ps ys h = olds_right a os ps ys h.1.1

places_grow : (b : Bool) (k : ℕ) (ps qs : List ℕ) (i : ℕ) → ps ≡ qs ++ i ∷ [] → cond b (k ∷ ps) ps ≡ cond b (k ∷ qs) qs ++ i ∷ []
places_grow b k ps qs i e = grind (arith, nat_tests)

module _ {E : Type 0} where
  -- an entry of another caller is at none of this one's places
  pub places_else : (k n : ℕ) (log : Log E) (m : ℕ) (e : E) → m ≢ n → places_from k n (log ++ (m, e) ∷ []) ≡ places_from k n log
  places_else k n [] m e ne = ap (λ b. cond b (k ∷ []) []) (ne_eqb m n ne)
  places_else k n (x ∷ xs) m e ne = ap (λ (ps : List ℕ). cond (eqb x.0 n) (k ∷ ps) ps) (places_else (k + 1) n xs m e ne)

  pub places_own : (k n : ℕ) (log : Log E) (e : E) → places_from k n (log ++ (n, e) ∷ []) ≡ places_from k n log ++ (k + length log) ∷ []
  places_own k n [] e = ap (λ b. cond b (k ∷ []) []) (eq-eqb n n refl) ∙ ap (λ (i : ℕ). i ∷ []) (omega arith)
  places_own k n (x ∷ xs) e = let r = places_own (k + 1) n xs e in let s : (k + 1) + length xs ≡ k + suc (length xs) = omega arith in
      let t : places_from (k + 1) n (xs ++ (n, e) ∷ []) ≡ places_from (k + 1) n xs ++ (k + suc (length xs)) ∷ [] = r ∙ ap (λ (i : ℕ). places_from (k + 1) n xs ++ i ∷ []) s in
      places_grow (eqb x.0 n) k (places_from (k + 1) n (xs ++ (n, e) ∷ [])) (places_from (k + 1) n xs) (k + suc (length xs)) t

  -- the places of a number, where a list has nothing more
  pub places_none : (n m : ℕ) (ys log : Log E) → n ≡ m → ys ≡ log → places n ys ≡ places m log
  places_none n m ys log same is = λ i. places (same i) (is i)

  -- the places of a number, where a list has one entry of it more
  pub places_one : (n m : ℕ) (ys log : Log E) (e : E) → n ≡ m → ys ≡ log ++ (m, e) ∷ [] → places n ys ≡ places m log ++ (length log + 1) ∷ []
  places_one n m ys log e same is = places_none n m ys (log ++ (m, e) ∷ []) same is ∙ places_own 1 m log e ∙ ap (λ (i : ℕ). places m log ++ i ∷ []) (omega arith)

  pub tells_else : (cs : List Claim) (log : Log E) (n : ℕ) (e : E) → claims_of n cs ≡ 0 → AllTell cs log → AllTell cs (log ++ (n, e) ∷ [])
  tells_else [] log n e none h = tt
  tells_else (c ∷ cs) log n e none h = grind (arith, nat_tests, places_else 1 c.0 log n e, tells_else cs log n e)

  pub retold_tells : (cs : List Claim) (log : Log E) → AllTell (retold log cs) log
  retold_tells [] log = tt
  retold_tells (c ∷ cs) log = (refl, retold_tells cs log)

  pub retold_length : (cs : List Claim) (log : Log E) → length (retold log cs) ≡ length cs
  retold_length [] log = refl
  retold_length (c ∷ cs) log = ap suc (retold_length cs log)

  pub retold_claims : (cs : List Claim) (log : Log E) (n : ℕ) → claims_of n (retold log cs) ≡ claims_of n cs
  retold_claims [] log n = refl
  retold_claims (c ∷ cs) log n = ap (λ (k : ℕ). weight (eqb c.0 n) + k) (retold_claims cs log n)

  pub tells_append : (cs ds : List Claim) (log : Log E) → AllTell cs log → AllTell ds log → AllTell (cs ++ ds) log
  tells_append [] ds log a b = b
  tells_append (c ∷ cs) ds log a b = (a.0, tells_append cs ds log a.1 b)

  pub tells_left : (cs ds : List Claim) (log : Log E) → AllTell (cs ++ ds) log → AllTell cs log
  tells_left [] ds log h = tt
  tells_left (c ∷ cs) ds log h = (h.0, tells_left cs ds log h.1)

  pub tells_right : (cs ds : List Claim) (log : Log E) → AllTell (cs ++ ds) log → AllTell ds log
  tells_right [] ds log h = h
  tells_right (c ∷ cs) ds log h = tells_right cs ds log h.1

-- each number has no place in no list
pub blank_tells : (E : Type 0) (ns : List ℕ) → AllTell {E = E} (blank ns) []
blank_tells E [] = tt
blank_tells E (n ∷ ns) = (refl, blank_tells E ns)

pub claims_append : (n : ℕ) (cs ds : List Claim) → claims_of n (cs ++ ds) ≡ claims_of n cs + claims_of n ds
claims_append n [] ds = omega arith
claims_append n (c ∷ cs) ds = let r = claims_append n cs ds in omega arith

pub numbers_length : (k count : ℕ) → length (numbers_from k count) ≡ count
numbers_length k zero = refl
numbers_length k (suc count) = ap suc (numbers_length (k + 1) count)

pub weight_few : (b : Bool) → weight b ≤ 1
weight_few b = grind (arith, nat_tests)

numbers_above : (n k count : ℕ) → n < k → claims_of n (blank (numbers_from k count)) ≡ 0
numbers_above n k zero l = refl
numbers_above n k (suc count) l = let no : weight (eqb k n) ≡ 0 = ap weight (ne_eqb k n (λ e. omega arith)) in
    let r = numbers_above n (k + 1) count (omega arith) in omega (arith, no, r)

numbers_past : (n k count : ℕ) → k + count ≤ n → claims_of n (blank (numbers_from k count)) ≡ 0
numbers_past n k zero l = refl
numbers_past n k (suc count) l = let no : weight (eqb k n) ≡ 0 = ap weight (ne_eqb k n (λ e. omega arith)) in
    let r = numbers_past n (k + 1) count (omega arith) in omega (arith, no, r)

numbers_within : (n k count : ℕ) → k ≤ n → n < k + count → claims_of n (blank (numbers_from k count)) ≡ 1
numbers_within n k zero a b = absurd (omega arith)
numbers_within n k (suc count) a b = dite (ℕ_discrete k n)
    (λ is. let yes : weight (eqb k n) ≡ 1 = ap weight (eq-eqb k n is) in let r = numbers_above n (k + 1) count (omega arith) in omega (arith, yes, r))
    (λ ne. let no : weight (eqb k n) ≡ 0 = ap weight (ne_eqb k n ne) in let r = numbers_within n (k + 1) count (omega (arith, ne)) (omega arith) in omega (arith, no, r))

below_test : (b : Bool) (n count : ℕ) → ltb n count ≡ b → claims_of n (blank (numbers_from 0 count)) ≡ weight b
below_test b n count e = grind (arith, nat_tests, numbers_within n 0 count, numbers_past n 0 count)

-- of the numbers below count each is there once
pub numbers_once : (n count : ℕ) → claims_of n (blank (numbers_from 0 count)) ≡ weight (ltb n count)
numbers_once n count = below_test (ltb n count) n count refl

pub cut_length : (ns : List ℕ) → length (others_of ns) + length (blank (first_of ns)) ≡ length ns
cut_length ns = grind (arith, nat_tests)

pub cut_others_length : (ns : List ℕ) → length ns ≤ length (others_of ns) + 1
cut_others_length ns = grind (arith, nat_tests)

-- a number is claimed no more often than there are claims
pub claims_few : (n : ℕ) (cs : List Claim) → claims_of n cs ≤ length cs
claims_few n [] = omega arith
claims_few n (c ∷ cs) = let r = claims_few n cs in let w = weight_few (eqb c.0 n) in omega arith

pub cut_claims : (m : ℕ) (ns : List ℕ) → claims_of m (blank (others_of ns)) + claims_of m (blank (first_of ns)) ≡ claims_of m (blank ns)
cut_claims m ns = grind (arith, nat_tests)

pub blank_claims : (m : ℕ) (ns ms : List ℕ) → claims_of m (blank (ns ++ ms)) ≡ claims_of m (blank ns) + claims_of m (blank ms)
blank_claims m [] ms = omega arith
blank_claims m (n ∷ ns) ms = let r = blank_claims m ns ms in omega arith

module _ {E : Type 0} where
  pub cut_first : (ns : List ℕ) (log : Log E) → AllTell (blank ns) log → AllTell (blank (first_of ns)) log
  cut_first ns log h = grind (arith, nat_tests)

  pub cut_others : (ns : List ℕ) (log : Log E) → AllTell (blank ns) log → AllTell (blank (others_of ns)) log
  cut_others ns log h = grind (arith, nat_tests)

  pub blank_append : (ns ms : List ℕ) (log : Log E) → AllTell (blank ns) log → AllTell (blank ms) log → AllTell (blank (ns ++ ms)) log
  blank_append [] ms log a b = b
  blank_append (n ∷ ns) ms log a b = (a.0, blank_append ns ms log a.1 b)

  -- a spare number has no entry
  pub blank_none : (n : ℕ) (ns : List ℕ) (log : Log E) → AllTell (blank ns) log → 0 < claims_of n (blank ns) → places n log ≡ []
  blank_none n [] log h some_claim = absurd (omega (arith, some_claim))
  blank_none n (m ∷ ms) log h some_claim = grind (arith, nat_tests, blank_none n ms log h.1)

module _ {A : Type 0} where
  either_prefix : (b : Bool) (xs ys log : List A) → IsPrefix xs log → IsPrefix ys log → IsPrefix (cond b ys xs) log
  either_prefix true xs ys log p q = q
  either_prefix false xs ys log p q = p

  pub longer_prefix : (xs ys log : List A) → IsPrefix xs log → IsPrefix ys log → IsPrefix (longer xs ys) log
  longer_prefix xs ys log p q = either_prefix (ltb (length xs) (length ys)) xs ys log p q

module _ {A : Type 0} where
  -- of two beginnings of one list, the shorter begins the longer
  pub shorter_begins : (xs ys log : List A) → IsPrefix xs log → IsPrefix ys log → length xs ≤ length ys → IsPrefix xs ys
  shorter_begins [] ys log p q l = (ys, refl)
  shorter_begins (x ∷ xs) [] log p q l = absurd (omega arith)
  shorter_begins (x ∷ xs) (y ∷ ys) log p q l = let e : ◌≡◌ {A = List A} (x ∷ (xs ++ p.0)) (y ∷ (ys ++ q.0)) = p.1 ∙ sym q.1 in let hd : x ≡ y = cc in let tl : xs ++ p.0 ≡ ys ++ q.0 = cc in
      let r = shorter_begins xs ys (ys ++ q.0) (p.0, tl) (q.0, refl) (omega arith) in (r.0, (λ i. hd i ∷ r.1 i))

  either_length : (b : Bool) (xs ys : List A) → ltb (length xs) (length ys) ≡ b → (length xs ≤ length (cond b ys xs)) × (length ys ≤ length (cond b ys xs))
  either_length b xs ys e = grind (arith, nat_tests)

  pub longer_length : (xs ys : List A) → (length xs ≤ length (longer xs ys)) × (length ys ≤ length (longer xs ys))
  longer_length xs ys = either_length (ltb (length xs) (length ys)) xs ys refl

  either_one : (b : Bool) (xs ys : List A) → (cond b ys xs ≡ xs) ⊎ (cond b ys xs ≡ ys)
  either_one b xs ys = grind (arith, nat_tests)

  pub longer_one : (xs ys : List A) → (longer xs ys ≡ xs) ⊎ (longer xs ys ≡ ys)
  longer_one xs ys = either_one (ltb (length xs) (length ys)) xs ys

module _ {P E : Type 0} where
  abbrev pub AllShort : List (Old P E) → Log E → Type 0
  AllShort [] xs = Unit {0}
  AllShort (o ∷ os) xs = (length o.1 ≤ length xs) × AllShort os xs

  pub olds_begin : (a b : Option P) (on : (p : P) → a ≡ Some p → b ≡ Some p) (os : List (Old P E)) (xs log : Log E) → IsPrefix xs log → AllShort os xs → AllOld a os log → AllOld b os xs
  olds_begin a b on [] xs log p s h = tt
  olds_begin a b on (o ∷ os) xs log p s h = (replan a b on o.0 h.0, (shorter_begins o.1 xs log h.1.0 p s.0, olds_begin a b on os xs log p s.1 h.1.1))

no_items : (l : List ℕ) → length l ≡ 0 → l ≡ []
no_items [] e = refl
no_items (x ∷ xs) e = absurd (omega arith)

places_cons : (b : Bool) (k : ℕ) (ps qs rs : List ℕ) → ps ≡ qs ++ rs → cond b (k ∷ ps) ps ≡ cond b (k ∷ qs) qs ++ rs
places_cons b k ps qs rs e = grind (arith, nat_tests)

module _ {E : Type 0} where
  places_append : (k n : ℕ) (xs ys : Log E) → places_from k n (xs ++ ys) ≡ places_from k n xs ++ places_from (k + length xs) n ys
  places_append k n [] ys = ap (λ (i : ℕ). places_from i n ys) (omega arith)
  places_append k n (x ∷ xs) ys = let s : (k + 1) + length xs ≡ k + suc (length xs) = omega arith in
      let r = places_append (k + 1) n xs ys ∙ ap (λ (i : ℕ). places_from (k + 1) n xs ++ places_from i n ys) s in places_cons (eqb x.0 n) k (places_from (k + 1) n (xs ++ ys)) (places_from (k + 1) n xs) (places_from (k + suc (length xs)) n ys) r

  -- where a beginning has all places of a number, so has each longer one
  pub places_between : (n : ℕ) (xs ys log : Log E) → IsPrefix xs ys → IsPrefix ys log → places n xs ≡ places n log → places n ys ≡ places n log
  places_between n xs ys log p q e =
      let a = ap (places n) (sym p.1) ∙ places_append 1 n xs p.0 in let b = ap (places n) (sym q.1) ∙ places_append 1 n ys q.0 in
      let la = ap length a ∙ length-append (places n xs) (places_from (1 + length xs) n p.0) in let lb = ap length b ∙ length-append (places n ys) (places_from (1 + length ys) n q.0) in let le = ap length e in
      sym (b ∙ ap (λ (l : List ℕ). places n ys ++ l) (no_items (places_from (1 + length ys) n q.0) (omega arith)) ∙ append-nil (places n ys))

  pub tells_between : (cs : List Claim) (xs ys log : Log E) → IsPrefix xs ys → IsPrefix ys log → AllTell cs xs → AllTell cs log → AllTell cs ys
  tells_between [] xs ys log p q a b = tt
  tells_between (c ∷ cs) xs ys log p q a b = (b.0 ∙ sym (places_between c.0 xs ys log p q (sym a.0 ∙ b.0)), tells_between cs xs ys log p q a.1 b.1)
