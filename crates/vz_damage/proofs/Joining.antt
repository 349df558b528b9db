-- The smallest rectangle round several, as more are told.
use Rattle.std.proofs.Common.{◌≡◌, ℕ, ℤ, ◌+◌, ◌+ℤ◌, ◌-ℤ◌, ◌≤◌, refl, ap, sym, ◌∙◌, arith, List, [], ◌∷◌, ◌++◌, take, drop, length, zero, suc}
use Rattle.std.specs.Int.{int_max, int_min}
use Rattle.std.proofs.lemmas.List.{length_push, take_all}
use Rattle.std.proofs.lemmas.Int.{ints, clamps}
use Rattle.vz_geom.specs.Rectangle.{Rectangle, hull, join, bound, no_rectangle, with_sides, IsRectangle}
use Rattle.vz_geom.proofs.Sets.{full_sides}
use Rattle.vz_geom.proofs.Bounds.{IsFull, of_full, to_full, by_full, join_first, join_second, join_both}
use Rattle.vz_damage.specs.Told.{Told, damage_between, AreRunning}
use Rattle.std.proofs.lemmas.Bool.Decides.{nat_tests}
use Rattle.std.proofs.lemmas.Grind.{common_steps}

-- the sides of the rectangle round two that have points
abbrev sides_of : Rectangle → Rectangle → Rectangle
sides_of a b = record {
  x = int_min a.x b.x;
  y = int_min a.y b.y;
  w = int_max (a.x +ℤ a.w) (b.x +ℤ b.w) -ℤ int_min a.x b.x;
  h = int_max (a.y +ℤ a.h) (b.y +ℤ b.h) -ℤ int_min a.y b.y;
}

hull_is : (a b : Rectangle) → IsFull a → IsFull b → hull a b ≡ sides_of a b
unfolding hull
hull_is a b p q = full_sides _ _ _ _ (omega (arith, ints, clamps)) (omega (arith, ints, clamps))

sides_full : (a b : Rectangle) → IsFull a → IsFull b → IsFull (sides_of a b)
sides_full a b p q = record { wide = omega (arith, ints, clamps); high = omega (arith, ints, clamps) }

edge : (l r : ℤ) → (l +ℤ (r -ℤ l)) ≡ r
edge l r = omega (arith, ints)

max_assoc : (a b c : ℤ) → int_max (int_max a b) c ≡ int_max a (int_max b c)
max_assoc a b c = omega (arith, ints, clamps)

min_assoc : (a b c : ℤ) → int_min (int_min a b) c ≡ int_min a (int_min b c)
min_assoc a b c = omega (arith, ints, clamps)

sides_assoc : (a b c : Rectangle) → sides_of (sides_of a b) c ≡ sides_of a (sides_of b c)
sides_assoc a b c = grind (arith, nat_tests, min_assoc, edge, max_assoc)

-- three rectangles have the same one round them in each order
pub join_assoc : (a b c : Rectangle) → join (join a b) c ≡ join a (join b c)
join_assoc a b c = grind (arith, nat_tests, by_full, join_first, join_second, join_both, hull_is, to_full, sides_full, of_full, sides_assoc)

-- the rectangle round two lists is that round the rectangles round each
pub bound_append : (xs ys : List Rectangle) → bound (xs ++ ys) ≡ join (bound xs) (bound ys)
unfolding bound
bound_append [] ys = sym (join_first no_rectangle (bound ys) refl)
bound_append (x ∷ xs) ys = ap (join x) (bound_append xs ys) ∙ sym (join_assoc x (bound xs) (bound ys))

-- a rectangle with nothing beside it
pub bound_one : (r : Rectangle) → IsRectangle r → bound (r ∷ []) ≡ r
unfolding bound with_sides
bound_one r proper = grind (arith, nat_tests, by_full, join_first r no_rectangle, join_second r no_rectangle)

-- Parts of lists

take_in : {A : Type 0} (xs ys : List A) (k : ℕ) → k ≤ length xs → take k (xs ++ ys) ≡ take k xs
take_in xs ys zero h = refl
take_in [] ys (suc k) h = absurd (omega (arith, h))
take_in (x ∷ xs) ys (suc k) h = ap (λ l. x ∷ l) (take_in xs ys k (omega (arith, h)))

drop_in : {A : Type 0} (xs ys : List A) (k : ℕ) → k ≤ length xs → drop k (xs ++ ys) ≡ drop k xs ++ ys
drop_in xs ys zero h = refl
drop_in [] ys (suc k) h = absurd (omega (arith, h))
drop_in (x ∷ xs) ys (suc k) h = drop_in xs ys k (omega (arith, h))

drop_taken : {A : Type 0} (xs : List A) (k : ℕ) → drop k (take k xs) ≡ []
drop_taken xs zero = refl
drop_taken [] (suc k) = refl
drop_taken (x ∷ xs) (suc k) = drop_taken xs k

-- behind one place there is what is between it and a later one, and what is behind that
drop_splits : {A : Type 0} (xs : List A) (k n : ℕ) → k ≤ n → drop k xs ≡ drop k (take n xs) ++ drop n xs
drop_splits xs zero n h = grind (arith, nat_tests, common_steps)
drop_splits xs (suc k) zero h = absurd (omega (arith, h))
drop_splits [] (suc k) (suc n) h = refl
drop_splits (x ∷ xs) (suc k) (suc n) h = drop_splits xs k n (omega (arith, h))

none : bound [] ≡ no_rectangle
unfolding bound
none = refl

-- The two rectangles

-- the first damage
pub first_told : (r : Rectangle) → IsRectangle r → AreRunning no_rectangle r 1 (record { damages = r ∷ []; active = 0; seen = 0 })
unfolding damage_between
first_told r proper = grind (arith, nat_tests, none, bound_one r proper)

module _ (shown waiting : Rectangle) (told : ℕ) (t : Told) (is : AreRunning shown waiting told t) where
  -- a damage more is above the active submission
  pub one_more : (r : Rectangle) → IsRectangle r → AreRunning shown (join waiting r) (told + 1) (record t { damages = t.damages ++ r ∷ [] })
  unfolding damage_between
  one_more r proper = grind (arith, nat_tests, length_push, take_in, take_all, bound_one, bound_append, drop_in)

  -- the last submission becomes active
  pub now_active : AreRunning (join shown waiting) no_rectangle told (record t { active = told })
  unfolding damage_between
  now_active = record {
    count = is.count;
    seen = omega (arith, is.seen, is.active);
    active = omega arith;
    first = ap (λ l. join l waiting) is.first ∙ ap (join (damage_between t.seen t.active t.damages)) (is.second ∙ ap (λ l. bound (drop t.active l)) all)
        ∙ sym (bound_append (drop t.seen (take t.active t.damages)) (drop t.active t.damages))
        ∙ ap bound (sym (drop_splits t.damages t.seen t.active is.seen))
        ∙ ap (λ l. bound (drop t.seen l)) (sym all);
    second = sym (ap bound (drop_taken t.damages told) ∙ none);
  }
    where
      all : take told t.damages ≡ t.damages
      all = take_all told t.damages (omega (arith, is.count))

  -- what is active is what the aggregation saw
  pub now_seen : AreRunning no_rectangle waiting told (record t { seen = t.active })
  unfolding damage_between
  now_seen = grind (arith, nat_tests, drop_taken t.damages t.active, none)

-- So it is with rectangles that are equal to these.

pub as_first : (shown r : Rectangle) → shown ≡ no_rectangle → IsRectangle r → (ds : List Rectangle) → ds ≡ [] ++ r ∷ []
    → AreRunning shown r 1 (record { damages = ds; active = 0; seen = 0 })
as_first shown r is proper ds told = grind (arith, nat_tests, first_told r proper)

pub as_told : (shown waiting joined r : Rectangle) (told index : ℕ) (t : Told) (ds : List Rectangle) → AreRunning shown waiting told t → joined ≡ join waiting r → IsRectangle r
    → index ≡ length t.damages + 1 → ds ≡ t.damages ++ r ∷ [] → AreRunning shown joined index (record t { damages = ds })
as_told shown waiting joined r told index t ds is joins proper next new = grind (arith, nat_tests, one_more shown waiting told t is r proper)

pub as_active : (shown waiting joined empty : Rectangle) (told : ℕ) (t : Told) → AreRunning shown waiting told t → joined ≡ join shown waiting
    → empty ≡ no_rectangle → AreRunning joined empty told (record t { active = told })
as_active shown waiting joined empty told t is joins none = grind (arith, nat_tests, now_active shown waiting told t is)

pub as_seen : (shown waiting empty : Rectangle) (told : ℕ) (t : Told) → AreRunning shown waiting told t → empty ≡ no_rectangle
    → AreRunning empty waiting told (record t { seen = t.active })
as_seen shown waiting empty told t is none = grind (arith, nat_tests, now_seen shown waiting told t is)
