-- The first places of numbers, as a list grows.
use Rattle.std.proofs.Common.{◌≡◌, ℕ, zero, suc, ◌+◌, ◌<◌, List, [], ◌∷◌, ◌++◌, length, get_or, take, map, Bool, true, false, ◌||◌, cond, ◌==◌, Option, Some, None, is_some, is_none, not, ◌≤◌, if◌then◌else◌, refl, sym, ap, ◌∙◌, subst, ap₂, find, slice_get, arith}
use Rattle.std.proofs.lemmas.Bool.Decides.{nat_tests}
use Rattle.std.proofs.lemmas.List.{length-map, length-take, get_or-map, take_more, take-map}
use mathlib.Core.Bool.{false≢true}
use Rattle.std.proofs.Common.{Bor}
use Rattle.std.specs.Option.{MatchOption, option_copied}
use Rattle.std.proofs.lemmas.Option.{slice_get_past, slice_get_read}
use Rattle.std.specs.List.{list_any}
use Rattle.vz_frame.specs.Frame.{has_repeat}
use Rattle.vz_frame.specs.Pairs.{Pairs, get, GetsAfterSet}
use Rattle.vz_frame.specs.Places.{behind, first_place, is_before}

-- the first of two that is there
abbrev pub either : Option ℕ → Option ℕ → Option ℕ
either None other = other
either (Some place) other = Some place

-- the place of a number that is put behind
abbrev pub at_end : ℕ → ℕ → ℕ → Option ℕ
at_end n x place = if x == n then Some place else None

pub first_push : (n : ℕ) (xs : List ℕ) (x : ℕ) → first_place n (xs ++ x ∷ []) ≡ either (first_place n xs) (at_end n x (length xs))
unfolding first_place
first_push n [] x = grind (arith, nat_tests)
first_push n (y ∷ ys) x = grind (arith, nat_tests, first_push n ys x)

-- a number is found exactly where one of the list is the same
pub found_any : (n : ℕ) (xs : List ℕ) → is_some (first_place n xs) ≡ list_any (λ x. x == n) xs
unfolding first_place
found_any n [] = refl
found_any n (y ∷ ys) = grind (arith, nat_tests, found_any n ys)

any_push : (p : ℕ → Bool) (xs : List ℕ) (x : ℕ) → list_any p (xs ++ x ∷ []) ≡ (list_any p xs || p x)
any_push p [] x = grind arith
any_push p (y ∷ ys) x = grind (arith, any_push p ys x)

-- a number that is put behind repeats one, or there was a repeat before
pub repeat_push : (xs : List ℕ) (x : ℕ) → has_repeat (λ a b. b == a) (xs ++ x ∷ []) ≡ (has_repeat (λ a b. b == a) xs || is_some (first_place x xs))
unfolding first_place
repeat_push [] x = refl
repeat_push (y ∷ ys) x = grind (arith, nat_tests, repeat_push ys x, any_push (λ b. b == y) ys x, found_any x (y ∷ ys), found_any x ys)

-- what a map keeps while items are gone through: the first places of the ids so far
abbrev pub Maps : Pairs → List ℕ → Type 0
Maps index ids = (n : ℕ) → get index n ≡ first_place n ids

-- an id that the map did not have is put into it
pub maps_new : (old new : Pairs) (ids : List ℕ) (id place : ℕ) → Maps old ids → place ≡ length ids → get old id ≡ None → GetsAfterSet old new id place → Maps new (ids ++ id ∷ [])
maps_new old new ids id place maps at none set n = grind (arith, nat_tests, maps n, maps id, none, set n, first_push n ids id)

-- an id that the map had stays where it was
pub maps_old : (old : Pairs) (ids : List ℕ) (id place : ℕ) → Maps old ids → is_none (get old id) ≡ false → Maps old (ids ++ id ∷ [])
maps_old old ids id place maps there n = grind (arith, nat_tests, maps n, maps id, there, first_push n ids id)

module _ {A : Type 0} (id_of : A → ℕ) (items : List A) (k : ℕ) (item : A) (inside : k < length items) (is : item ≡ get_or items k item) where
  -- the ids with one more
  pub ids_more : take (k + 1) (map id_of items) ≡ take k (map id_of items) ++ id_of item ∷ []
  ids_more =
      let fits : k < length (map id_of items) = omega (arith, length-map items id_of) in
      let read : get_or (map id_of items) k (id_of item) ≡ id_of item = get_or-map id_of items k item (id_of item) inside ∙ ap id_of (sym is) in
      take_more (map id_of items) k (id_of item) fits ∙ ap (λ n. take k (map id_of items) ++ n ∷ []) read

  pub so_many : length (take k (map id_of items)) ≡ k
  so_many = let long = length-map items id_of in let front = length-take k (map id_of items) in omega arith

  -- a repeat among one more
  pub repeats_more : (before now : Bool) → before ≡ has_repeat (λ a b. b == a) (take k (map id_of items)) → now ≡ is_some (first_place (id_of item) (take k (map id_of items)))
      → (before || now) ≡ has_repeat (λ a b. b == a) (take (k + 1) (map id_of items))
  repeats_more before now was is_now = rw (was, is_now, ids_more, repeat_push (take k (map id_of items)) (id_of item)) refl

-- one more that is another number is not found either
pub none_next : (n : ℕ) (xs : List ℕ) (x : ℕ) → first_place n xs ≡ None → (x ≡ n → ⊥) → first_place n (xs ++ x ∷ []) ≡ None
none_next n xs x none other = grind (arith, nat_tests, first_push n xs x, none, other)

behind_none : (o : Option ℕ) → behind o ≡ None → o ≡ None
behind_none None is = refl
behind_none (Some place) is = grind (arith, is)

-- a number that is not found before its place is found there
pub first_at : (n : ℕ) (xs : List ℕ) (k : ℕ) → k < length xs → get_or xs k n ≡ n → first_place n (take k xs) ≡ None → first_place n xs ≡ Some k
unfolding first_place
first_at n [] k inside is none = absurd (omega (arith, inside))
first_at n (x ∷ xs) zero inside is none = grind (arith, nat_tests, is)
first_at n (x ∷ xs) (suc k) inside is none = grind (arith, nat_tests, none, behind_none (first_place n (take k xs)), first_at n xs k (omega (arith, inside)) is)

-- the same, where the numbers are the ids of items
pub found_next : {A : Type 0} (id_of : A → ℕ) (items : List A) (k : ℕ) (item : A) (n : ℕ) → k < length items → item ≡ get_or items k item → id_of item ≡ n → first_place n (take k (map id_of items)) ≡ None → first_place n (map id_of items) ≡ Some k
found_next id_of items k item n inside is same none =
    let fits : k < length (map id_of items) = omega (arith, length-map items id_of) in
    first_at n (map id_of items) k fits (get_or-map id_of items k item n inside ∙ ap id_of (sym is) ∙ same) none

-- what one more id does to the map, to the answer on repeats and to how many ids there are
pub record Grows (old new : Pairs) (ids : List ℕ) (id : ℕ) (is_new : Bool) : Type 0 where
  pub maps : Maps new (ids ++ id ∷ [])
  pub repeats : not is_new ≡ is_some (first_place id ids)
  pub few : length new ≤ length ids + 1

pub grows : (old new : Pairs) (ids : List ℕ) (id place : ℕ) (is_new : Bool) → Maps old ids → length old ≤ place → length ids ≡ place → is_new ≡ is_none (get old id)
    → (is_new ≡ true → GetsAfterSet old new id place) → (is_new ≡ true → length new ≡ length old + 1) → (is_new ≡ false → new ≡ old) → Grows old new ids id is_new
grows old new ids id place true maps few long is set longer kept =
    let none : get old id ≡ None = grind (arith, is) in
    record {
      maps = maps_new old new ids id place maps (sym long) none (set refl);
      repeats = grind (arith, maps id, none);
      few = omega (arith, few, long, longer refl);
    }
grows old new ids id place false maps few long is set longer kept =
    let same = kept refl in
    record {
      maps = subst (λ p. Maps p (ids ++ id ∷ [])) (sym same) (maps_old old ids id place maps (sym is));
      repeats = grind (arith, maps id, is);
      few = omega (arith, few, long, ap length same);
    }

before_behind : (limit : ℕ) (o : Option ℕ) → is_before (suc limit) (behind o) ≡ is_before limit o
before_behind limit None = refl
before_behind limit (Some place) = grind (arith, nat_tests)

no_place_before : (o : Option ℕ) → is_before 0 o ≡ false
no_place_before None = refl
no_place_before (Some place) = grind (arith, nat_tests)

-- whether one of the numbers stands before a limit
before_numbers : (n : ℕ) (xs : List ℕ) (limit : ℕ) → is_before limit (first_place n xs) ≡ list_any (λ x. x == n) (take limit xs)
unfolding first_place
before_numbers n xs zero = no_place_before (first_place n xs)
before_numbers n [] (suc limit) = refl
before_numbers n (x ∷ xs) (suc limit) = grind (arith, nat_tests, before_numbers n xs limit, before_behind limit (first_place n xs))

abbrev place_in : Option ℕ → ℕ
place_in None = 0
place_in (Some place) = place

abbrev is_there : Option ℕ → Bool
is_there None = false
is_there (Some place) = true

-- the first of a list and those behind it, by whether the first is the one
there : {A : Type 0} (b : Bool) (x : A) (xs : List A) (place : ℕ) (o : Option ℕ) (rest : Option A) → ((p : ℕ) → o ≡ Some p → slice_get xs p ≡ rest)
    → (if b then Some 0 else behind o) ≡ Some place → slice_get (x ∷ xs) place ≡ cond b (Some x) rest
there {A} true x xs place o rest on is = subst (λ p. slice_get (x ∷ xs) p ≡ Some x) (ap place_in is) refl
there {A} false x xs place None rest on is = absurd (false≢true (ap is_there is))
there {A} false x xs place (Some p) rest on is =
    let next : suc p ≡ place = omega (arith, ap place_in is) in
    subst (λ k. slice_get (x ∷ xs) k ≡ rest) next (on p refl)

nowhere : {A : Type 0} (b : Bool) (x : A) (o : Option ℕ) (rest : Option A) → (o ≡ None → rest ≡ None) → (if b then Some 0 else behind o) ≡ None → cond b (Some x) rest ≡ None
nowhere true x o rest on is = absurd (false≢true (sym (ap is_there is)))
nowhere false x None rest on is = on refl
nowhere false x (Some p) rest on is = absurd (false≢true (sym (ap is_there is)))

module _ {A : Type 0} (id_of : A → ℕ) where
  any_map : (p : ℕ → Bool) (xs : List A) → list_any p (map id_of xs) ≡ list_any (λ x. p (id_of x)) xs
  any_map p [] = refl
  any_map p (x ∷ xs) = ap (λ b. p (id_of x) || b) (any_map p xs)

  -- two values have one id exactly where two ids are the same
  pub repeat_map : (xs : List A) → has_repeat (λ a b. b == a) (map id_of xs) ≡ has_repeat (λ a b. id_of b == id_of a) xs
  repeat_map [] = refl
  repeat_map (x ∷ xs) = ap₂ (λ b c. b || c) (any_map (λ b. b == id_of x) xs) (repeat_map xs)

  -- whether a value before a limit has the id
  pub before : (n : ℕ) (xs : List A) (limit : ℕ) → is_before limit (first_place n (map id_of xs)) ≡ list_any (λ x. id_of x == n) (take limit xs)
  before n xs limit = before_numbers n (map id_of xs) limit ∙ ap (list_any (λ x. x == n)) (take-map id_of limit xs) ∙ any_map (λ x. x == n) (take limit xs)

  -- the value at the first place is the first that has the id
  pub found_there : (n : ℕ) (xs : List A) (place : ℕ) → first_place n (map id_of xs) ≡ Some place → slice_get xs place ≡ find (λ x. id_of x == n) xs
  unfolding first_place
  found_there n [] place is = refl
  found_there n (x ∷ xs) place is = there (id_of x == n) x xs place (first_place n (map id_of xs)) (find (λ y. id_of y == n) xs) (found_there n xs) is

  -- where there is no place there is no value
  pub found_none : (n : ℕ) (xs : List A) → first_place n (map id_of xs) ≡ None → find (λ x. id_of x == n) xs ≡ None
  unfolding first_place
  found_none n [] is = refl
  found_none n (x ∷ xs) is = nowhere (id_of x == n) x (first_place n (map id_of xs)) (find (λ y. id_of y == n) xs) (found_none n xs) is

-- what a slice gives at a place
pub got : {A : Type 0} (xs : List A) (place : ℕ) (r : Option (Bor A)) → MatchOption r (length xs ≤ place) (λ x. (place < length xs) × ((d : A) → x.now ≡ get_or xs place d)) → option_copied r ≡ slice_get xs place
got xs place None past = sym (slice_get_past xs place past)
got xs place (Some x) inside = sym (slice_get_read xs (length xs) place x.now refl inside.0 (inside.1 x.now))
