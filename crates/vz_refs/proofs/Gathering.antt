-- What can be reached, and the loops that reach it.
use Rattle.std.proofs.Common.{◌≡◌, ℕ, zero, suc, ◌+◌, ◌-◌, ◌≤◌, ◌<◌, true, false, inl, inr, Option, Some, None, IfSome, IsTrue, List, [], ◌∷◌, ◌++◌, length, get_or, drop, map, slice_get, refl, ap, sym, ◌∙◌, arith, subst}
use Rattle.std.specs.List.{list_any, filter_map, cons_option}
use Rattle.std.specs.Option.{option_map, option_to_list}
use Rattle.std.specs.Map.{values_of}
use Rattle.std.proofs.lemmas.List.{drop_more}
use Rattle.std.proofs.lemmas.List.Folds.{list_any-append}
use Rattle.std.proofs.lemmas.Option.{slice_get_within, get_or_from_slice_get}
use Rattle.vz_ids.specs.declared.SurfaceId.{SurfaceId}
use Rattle.vz_ids.specs.declared.SurfaceRange.{SurfaceRange}
use Rattle.vz_ids.specs.Ids.{same_surface}
use Rattle.vz_rules.specs.Closure.{adding, IsLeastClosed}
use Rattle.vz_refs.specs.declared.seats.Name.{Name}
use Rattle.vz_refs.specs.declared.seats.Kept.{Kept}
use Rattle.vz_refs.specs.Lasting.{all_in}
use Rattle.vz_refs.specs.Referring.{Ranged, Temporary, is_set, ranges_of, next_in, starts}
use Rattle.vz_rules.proofs.Marking.{from_or, left_or, right_or, next_room, Marked, first_room, marked_first, marked_next, marked_room, marked_within}
use Rattle.vz_rules.proofs.Reached.{from_same, self_same}
use Rattle.vz_refs.proofs.Changing.{set_ids}
use Rattle.vz_rules.proofs.Facts.{length_map}
use Rattle.std.proofs.lemmas.Bool.Decides.{nat_tests}

-- all that can be reached
abbrev pub all_of : List Ranged → Option SurfaceId → List Temporary → List SurfaceId
all_of sets root kept = starts root kept ++ map (λ s. s.id) sets

shown_set : (shows : SurfaceRange → Option SurfaceId) (sets : List Ranged) → ((r : SurfaceRange) → IfSome (shows r) (λ id. IsTrue (is_set sets id)))
    → (ranges : List SurfaceRange) (x : SurfaceId) → list_any (same_surface x) (filter_map shows ranges) ≡ true → is_set sets x ≡ true
shown_set shows sets h [] x e = absurd (cc)
shown_set shows sets h (r ∷ ranges) x e =
    elim (shows r) as (λ (o : Option SurfaceId). IfSome o (λ id. IsTrue (is_set sets id)) → list_any (same_surface x) (cons_option o (filter_map shows ranges)) ≡ true → is_set sets x ≡ true) [
      | None ↦ λ g k. shown_set shows sets h ranges x k
      | Some a ↦ λ g k. elim (from_or (same_surface x a) (list_any (same_surface x) (filter_map shows ranges)) k) [
        | inl q ↦ ap (is_set sets) (from_same x a q) ∙ g
        | inr q ↦ shown_set shows sets h ranges x q
      ]
    ] (h r) e

pub next_inside : (shows : SurfaceRange → Option SurfaceId) (sets : List Ranged) (root : Option SurfaceId) (kept : List Temporary) → ((r : SurfaceRange) → IfSome (shows r) (λ id. IsTrue (is_set sets id)))
    → (y x : SurfaceId) → list_any (same_surface x) (next_in shows sets y) ≡ true → list_any (same_surface x) (all_of sets root kept) ≡ true
unfolding next_in
next_inside shows sets root kept h y x e =
    list_any-append (same_surface x) (starts root kept) (map (λ s. s.id) sets)
    ∙ right_or (list_any (same_surface x) (starts root kept)) _ (sym (set_ids sets x) ∙ shown_set shows sets h (ranges_of sets y) x e)

pub starts_inside : (sets : List Ranged) (root : Option SurfaceId) (kept : List Temporary) (x : SurfaceId) → list_any (same_surface x) (starts root kept) ≡ true → list_any (same_surface x) (all_of sets root kept) ≡ true
starts_inside sets root kept x e = list_any-append (same_surface x) (starts root kept) (map (λ s. s.id) sets) ∙ left_or _ (list_any (same_surface x) (map (λ s. s.id) sets)) e

length_two : {A : Type 0} (xs ys : List A) → length (xs ++ ys) ≡ length xs + length ys
length_two [] ys = omega arith
length_two (x ∷ xs) ys = let rest = length_two xs ys in omega (arith, rest)

-- as many as a map has
pub all_long : (entries : List (Name × Kept)) → length (all_in entries) ≡ length entries
all_long [] = refl
all_long (e ∷ entries) = let rest = all_long entries in omega (arith, rest)

-- room for all of a map
pub all_room : (entries : List (Name × Kept)) (n spare : ℕ) → n + length entries < spare → n + length (all_in entries) < spare
all_room entries n spare few = let same = all_long entries in omega (arith, same, few)

at_most_one : (root : Option SurfaceId) → length (option_to_list root) ≤ 1
at_most_one x0 = grind (arith, nat_tests)

pub all_fit : (sets : List Ranged) (root : Option SurfaceId) (kept : List Temporary) (spare : ℕ) → length sets + length kept < spare → length (all_of sets root kept) ≤ spare
unfolding starts
all_fit sets root kept spare few = grind (arith, nat_tests, length_two (starts root kept), length_two (option_to_list root) (map (λ (t : Temporary). t.id) kept), at_most_one root, length_map)

-- one of those that come is put in
pub grows : (out new rest whole : List SurfaceId) (x : SurfaceId) → adding same_surface out (x ∷ rest) ≡ whole → new ≡ adding same_surface out (x ∷ []) → adding same_surface new rest ≡ whole
grows out new rest whole x left is = ap (λ l. adding same_surface l rest) is ∙ left

-- there is room for it
pub room_for : (out rest whole : List SurfaceId) (x : SurfaceId) (total spare : ℕ) → adding same_surface out (x ∷ rest) ≡ whole → length whole ≤ total → total ≤ length out + spare
    → list_any (same_surface x) out ≡ false → 0 < spare
room_for out rest whole x total spare left few enough none =
    next_room same_surface from_same self_same out rest x spare (let long = ap length left in omega (arith, long, few, enough)) none

-- the surface at a place of a map
pub id_there : (entries : List (Name × Kept)) (i : ℕ) (k : Kept) → slice_get (values_of entries) i ≡ Some k → option_map (λ t. t.id) (slice_get (all_in entries) i) ≡ Some k.id
id_there [] i k e = absurd (cc)
id_there (x ∷ entries) zero k e = let is : x.1 ≡ k = cc in ap (λ (k : Kept). Some k.id) is
id_there (x ∷ entries) (suc i) k e = id_there entries i k e

-- the next temporary surface is put in
module _ (kept : List Temporary) (i : ℕ) (id : SurfaceId) (out whole : List SurfaceId) (here : option_map (λ t. t.id) (slice_get kept i) ≡ Some id)
    (left : adding same_surface out (map (λ t. t.id) (drop i kept)) ≡ whole) where
  ids_left : map (λ (t : Temporary). t.id) (drop i kept) ≡ id ∷ map (λ t. t.id) (drop (i + 1) kept)
  ids_left = by_get (slice_get kept i) refl here
    where
      by_get : (o : Option Temporary) → slice_get kept i ≡ o → option_map (λ (t : Temporary). t.id) o ≡ Some id → map (λ (t : Temporary). t.id) (drop i kept) ≡ id ∷ map (λ t. t.id) (drop (i + 1) kept)
      by_get None e f = absurd (cc)
      by_get (Some t) e f =
          let is : t.id ≡ id = cc in
          ap (map (λ (t : Temporary). t.id)) (drop_more kept i t (slice_get_within kept i t e) ∙ ap (λ r. r ∷ drop (i + 1) kept) (get_or_from_slice_get kept i t t e)) ∙ ap (λ x. x ∷ map (λ (t : Temporary). t.id) (drop (i + 1) kept)) is

  pub kept_step : adding same_surface out (id ∷ map (λ t. t.id) (drop (i + 1) kept)) ≡ whole
  kept_step = ap (adding same_surface out) (sym ids_left) ∙ left

pub starts_none : (root : Option SurfaceId) (kept : List Temporary) → root ≡ None → starts root kept ≡ map (λ t. t.id) kept
unfolding starts
starts_none root kept is = ap (λ o. option_to_list o ++ map (λ (t : Temporary). t.id) kept) is

pub starts_some : (root : Option SurfaceId) (kept : List Temporary) (id : SurfaceId) → root ≡ Some id → starts root kept ≡ id ∷ map (λ t. t.id) kept
unfolding starts
starts_some root kept id is = ap (λ o. option_to_list o ++ map (λ (t : Temporary). t.id) kept) is

-- Marking

-- what stands when those before a place have been followed
abbrev pub IsMarked : (SurfaceRange → Option SurfaceId) → List Ranged → Option SurfaceId → List Temporary → List SurfaceId → ℕ → ℕ → Type 0
IsMarked shows sets root kept xs at total = Marked same_surface from_same self_same (next_in shows sets) (starts root kept) (all_of sets root kept) xs at total

module _ (shows : SurfaceRange → Option SurfaceId) (sets : List Ranged) (root : Option SurfaceId) (kept : List Temporary)
    (are_set : (r : SurfaceRange) → IfSome (shows r) (λ id. IsTrue (is_set sets id))) where
  -- at first there are the roots
  pub first_fits : (spare : ℕ) → length sets + length kept < spare → length (adding same_surface [] (starts root kept)) ≤ spare
  first_fits spare few =
      first_room same_surface from_same self_same (starts root kept) (all_of sets root kept) spare (starts_inside sets root kept) (all_fit sets root kept spare few)

  pub first_marked : (xs : List SurfaceId) (spare total : ℕ) → length sets + length kept < spare → spare ≤ total → xs ≡ adding same_surface [] (starts root kept)
      → IsMarked shows sets root kept xs 0 total
  first_marked xs spare total few enough is =
      let all = all_fit sets root kept spare few in
      subst (λ l. IsMarked shows sets root kept l 0 total) (sym is)
      (marked_first same_surface from_same self_same (next_in shows sets) (starts root kept) (all_of sets root kept) total (starts_inside sets root kept) (omega (arith, all, enough)))

  -- what is next fits
  pub next_fits : (xs : List SurfaceId) (at total : ℕ) (y : SurfaceId) → IsMarked shows sets root kept xs at total → length (adding same_surface xs (next_in shows sets y)) ≤ total
  next_fits xs at total y m =
      marked_room same_surface from_same self_same (next_in shows sets) (starts root kept) (all_of sets root kept) xs at total y m (next_inside shows sets root kept are_set y)

  -- one is followed
  pub next_marked : (xs new slice : List SurfaceId) (at total more : ℕ) (d : SurfaceId) → IsMarked shows sets root kept xs at total
      → slice ≡ xs → at < length slice → new ≡ adding same_surface xs (next_in shows sets (get_or slice at d)) → total ≤ more → IsMarked shows sets root kept new (at + 1) more
  next_marked xs new slice at total more d m same_list before is longer =
      let within : at < length xs = omega (arith, before, ap length same_list) in
      let now : new ≡ adding same_surface xs (next_in shows sets (get_or xs at d)) = is ∙ (λ i. adding same_surface xs (next_in shows sets (get_or (same_list i) at d))) in
      subst (λ l. IsMarked shows sets root kept l (at + 1) more) (sym now)
      (marked_next same_surface from_same self_same (next_in shows sets) (starts root kept) (all_of sets root kept) xs at total more (get_or xs at d) d m within refl
      (next_inside shows sets root kept are_set (get_or xs at d)) longer)

  -- fewer are left
  pub fewer_left : (xs slice : List SurfaceId) (at total : ℕ) → IsMarked shows sets root kept xs at total → slice ≡ xs → at < length slice
      → length (all_of sets root kept) - (at + 1) < length (all_of sets root kept) - at
  fewer_left xs slice at total m same_list before =
      let few = marked_within same_surface from_same self_same (next_in shows sets) (starts root kept) (all_of sets root kept) xs at total m in
      let long = ap length same_list in
      omega (arith, few, long, before)

-- The ranges of a surface, one after the other

module _ (shows : SurfaceRange → Option SurfaceId) (ranges : List SurfaceRange) (k : ℕ) (out whole : List SurfaceId) (left : adding same_surface out (filter_map shows (drop k ranges)) ≡ whole) where
  split : (range : SurfaceRange) → slice_get ranges k ≡ Some range → drop k ranges ≡ range ∷ drop (k + 1) ranges
  split range e = grind (arith, nat_tests, drop_more ranges k range (slice_get_within ranges k range e), slice_get_within ranges k range e, get_or_from_slice_get ranges k range range e)

  pub range_step : (range : SurfaceRange) (o : Option SurfaceId) → slice_get ranges k ≡ Some range → shows range ≡ o → adding same_surface out (cons_option o (filter_map shows (drop (k + 1) ranges))) ≡ whole
  range_step range o e is = grind (arith, nat_tests, split range e)

-- The roots in another order

-- the least list for roots is so for others that are the same surfaces
pub other_starts : (next : SurfaceId → List SurfaceId) (root : Option SurfaceId) (kept kept' : List Temporary) (xs : List SurfaceId)
    → ((x : SurfaceId) → list_any (same_surface x) (map (λ t. t.id) kept) ≡ list_any (same_surface x) (map (λ t. t.id) kept'))
    → IsLeastClosed same_surface next (starts root kept) xs → IsLeastClosed same_surface next (starts root kept') xs
unfolding starts
other_starts next root kept kept' xs same least = grind (arith, nat_tests, list_any-append)
