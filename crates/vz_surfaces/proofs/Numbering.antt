-- Lists of surfaces by rising numbers, over the changes of a store.
use Rattle.std.proofs.Common.{◌≡◌, ℕ, zero, suc, ◌<◌, ◌≤◌, inl, inr, Bool, true, false, nat_le, List, [], ◌∷◌, ◌++◌, filter, take, length, get_or, refl, ap, sym, ◌∙◌, arith, cond, subst, Contains}
use Rattle.std.specs.List.Sorted.{IsPartitionedBy, IsPartitionPoint}
use Rattle.std.proofs.lemmas.Bool.Decides.{nat_tests}
use Rattle.vz_rules.proofs.Members.{contains_here, contains_there, contains_none, contains_push, filter_at}
use Rattle.vz_surfaces.specs.declared.standing.Numbered.{Numbered}
use Rattle.vz_surfaces.specs.Numbers.{Rises}

pub rises_more : (xs : List Numbered) (y : Numbered) → Rises xs → ((x : Numbered) → Contains xs x → x.number < y.number) → Rises (xs ++ y ∷ [])
unfolding Rises
rises_more [] y h new = ((λ z c. absurd (contains_none z c)), tt)
rises_more (x ∷ xs) y h new = (
  (λ z c. elim (contains_push xs y z c) [
    | inl m ↦ h.0 z m
    | inr e ↦ subst (λ (w : Numbered). x.number < w.number) e (new x (contains_here x xs))
  ]),
  rises_more xs y h.1 (λ w c. new w (contains_there x w xs c)),
)

pub rises_less : (p : Numbered → Bool) (xs : List Numbered) → Rises xs → Rises (filter p xs)
unfolding Rises
rises_less p [] h = tt
rises_less p (x ∷ xs) h =
    elim (p x) as (λ (t : Bool). Rises (cond t (x ∷ filter p xs) (filter p xs))) [
      | true ↦ ((λ z c. h.0 z (filter_at p xs z c).0), rises_less p xs h.1)
      | false ↦ rises_less p xs h.1
    ]

get_same : (xs : List Numbered) (j : ℕ) (d : Numbered) → j < length xs → get_or xs j (get_or xs j d) ≡ get_or xs j d
get_same [] j d l = absurd (omega (arith, l))
get_same (y ∷ ys) zero d l = refl
get_same (y ∷ ys) (suc j) d l = get_same ys j d (omega (arith, l))

rises_at : (xs : List Numbered) (i j : ℕ) (d : Numbered) → Rises xs → i < j → j < length xs → (get_or xs i d).number < (get_or xs j d).number
unfolding Rises
rises_at [] i j d h k l = absurd (omega (arith, l))
rises_at (x ∷ xs) zero zero d h k l = absurd (omega (arith, k))
rises_at (x ∷ xs) zero (suc j) d h k l = h.0 (get_or xs j d) (j, omega (arith, l), get_same xs j d (omega (arith, l)))
rises_at (x ∷ xs) (suc i) zero d h k l = absurd (omega (arith, k))
rises_at (x ∷ xs) (suc i) (suc j) d h k l = rises_at xs i j d h.1 (omega (arith, k)) (omega (arith, l))

pub rises_parts : (xs : List Numbered) (to : ℕ) → Rises xs → IsPartitionedBy (λ (x : Numbered). nat_le x.number to) xs
rises_parts xs to h i j d l k e = grind (arith, nat_tests, rises_at)

pub front_filter : (p : Numbered → Bool) (xs : List Numbered) (n : ℕ) → n ≤ length xs → IsPartitionPoint (λ (x : Numbered). p x ≡ true) (λ (x : Numbered). p x ≡ false) xs n → take n xs ≡ filter p xs
front_filter p [] zero h point = refl
front_filter p [] (suc n) h point = absurd (omega (arith, h))
front_filter p (x ∷ xs) zero h point =
    sym (ap (λ (t : Bool). cond t (x ∷ filter p xs) (filter p xs)) (point.1 0 x (omega arith) (omega arith))
    ∙ sym (front_filter p xs zero (omega arith) ((λ k d l m. absurd (omega (arith, l))), λ k d l m. point.1 (suc k) d (omega arith) (omega (arith, m)))))
front_filter p (x ∷ xs) (suc n) h point =
    ap (λ l. x ∷ l) (front_filter p xs n (omega (arith, h)) ((λ k d l m. point.0 (suc k) d (omega (arith, l)) (omega (arith, m))), λ k d l m. point.1 (suc k) d (omega (arith, l)) (omega (arith, m))))
    ∙ ap (λ (t : Bool). cond t (x ∷ filter p xs) (filter p xs)) (sym (point.0 0 x (omega arith) (omega arith)))

-- numbers from 1 on: none is up to 0
pub none_up_to : (xs : List Numbered) (to : ℕ) → ((x : Numbered) → Contains xs x → 1 ≤ x.number) → to ≡ 0 → filter (λ (x : Numbered). nat_le x.number to) xs ≡ []
none_up_to [] to h e = refl
none_up_to (x ∷ xs) to h e =
    ap (λ (t : Bool). cond t (x ∷ filter (λ (y : Numbered). nat_le y.number to) xs) (filter (λ (y : Numbered). nat_le y.number to) xs)) (above x.number to (h x (contains_here x xs)) e)
    ∙ none_up_to xs to (λ y c. h y (contains_there x y xs c)) e
  where
    above : (n k : ℕ) → 1 ≤ n → k ≡ 0 → nat_le n k ≡ false
    above n k l e = grind (arith, nat_tests)
