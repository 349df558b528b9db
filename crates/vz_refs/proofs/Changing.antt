-- What is set, as the ranges of a surface change.
use Rattle.std.proofs.Common.{◌≡◌, ℕ, zero, suc, ◌+◌, ◌-◌, ◌<◌, ◌≤◌, ◌==◌, Bool, true, false, not, ◌||◌, Some, None, List, [], ◌∷◌, ◌++◌, length, take, map, filter, slice_get, get_or, refl, ap, sym, ◌∙◌, arith, cond}
use Rattle.std.specs.List.{list_any}
use Rattle.std.proofs.lemmas.Bool.Decides.{nat_tests}
use Rattle.std.proofs.lemmas.List.{take_more, take_all}
use Rattle.vz_ids.specs.declared.SurfaceId.{SurfaceId}
use Rattle.vz_ids.specs.declared.SurfaceRange.{SurfaceRange}
use Rattle.vz_ids.specs.Ids.{same_surface}
use Rattle.vz_rules.specs.Reach.{names}
use Rattle.vz_frame.specs.Frame.{has_repeat}
use Rattle.vz_refs.specs.Referring.{Ranged, is_set, ranges_of, set_one, setting, removing, is_named_by, is_named_in}
use Rattle.vz_refs.specs.Indexing.{changing, opening, one_more, but_last}
use Rattle.vz_rules.proofs.Marking.{left_or, right_or}
use Rattle.vz_rules.proofs.Reached.{from_same, self_same}
use Rattle.vz_refs.proofs.Same.{flip, apart, together}
pub use Rattle.std.proofs.lemmas.Option.{slice_get_past as get_over}
pub use Rattle.vz_rules.proofs.Kept_small.{at_there as some_within}
pub use Rattle.std.proofs.lemmas.Map.Keys.{any_passes_from_place as found_there}

-- Surfaces that are set, and their ranges

pub changed_set : (f : List SurfaceRange → List SurfaceRange) (id x : SurfaceId) (sets : List Ranged) → is_set (changing f id sets) x ≡ is_set sets x
unfolding changing
changed_set f id x [] = refl
changed_set f id x (s ∷ sets) = grind (arith, nat_tests, changed_set f id x sets)

pub changed_other : (f : List SurfaceRange → List SurfaceRange) (id x : SurfaceId) (sets : List Ranged) → same_surface id x ≡ false → ranges_of (changing f id sets) x ≡ ranges_of sets x
unfolding changing ranges_of
changed_other f id x [] e = refl
changed_other f id x (s ∷ sets) e = grind (arith, nat_tests, apart s.id id x, changed_other f id x sets e)

pub changed_own : (f : List SurfaceRange → List SurfaceRange) (id : SurfaceId) (sets : List Ranged) → is_set sets id ≡ true → ranges_of (changing f id sets) id ≡ f (ranges_of sets id)
unfolding changing ranges_of
changed_own f id [] e = absurd (cc)
changed_own f id (s ∷ sets) e = grind (arith, nat_tests, changed_own f id sets)

pub changed_ids : (f : List SurfaceRange → List SurfaceRange) (id : SurfaceId) (sets : List Ranged) → map (λ s. s.id) (changing f id sets) ≡ map (λ s. s.id) sets
unfolding changing
changed_ids f id [] = refl
changed_ids f id (s ∷ sets) = grind (arith, nat_tests, changed_ids f id sets)

pub unset_ranges : (sets : List Ranged) (id : SurfaceId) → is_set sets id ≡ false → ranges_of sets id ≡ []
unfolding ranges_of
unset_ranges [] id e = refl
unset_ranges (s ∷ sets) id e = grind (arith, nat_tests, unset_ranges sets id)

-- a surface with ranges is set
pub set_with_some : (sets : List Ranged) (id : SurfaceId) → 0 < length (ranges_of sets id) → is_set sets id ≡ true
set_with_some sets id some = grind (arith, nat_tests, unset_ranges sets id)

pub set_ids : (sets : List Ranged) (x : SurfaceId) → is_set sets x ≡ list_any (same_surface x) (map (λ s. s.id) sets)
set_ids [] x = refl
set_ids (s ∷ sets) x = rw (flip s.id x, set_ids sets x) refl

-- One surface more

pub behind : (sets : List Ranged) (id other : SurfaceId) (ranges : List SurfaceRange) → is_set sets id ≡ false → ranges_of (sets ++ record { id = id; ranges = ranges } ∷ []) other ≡ cond (same_surface id other) ranges (ranges_of sets other)
unfolding ranges_of
behind [] id other ranges e = refl
behind (s ∷ sets) id other ranges e =
    elim (same_surface s.id other) as (λ (t : Bool). same_surface s.id other ≡ t → cond t s.ranges (ranges_of (sets ++ record { id = id; ranges = ranges } ∷ []) other) ≡ cond (same_surface id other) ranges (cond t s.ranges (ranges_of sets other))) [
      | true ↦ λ f. sym (ap (λ t. cond t ranges s.ranges) (elsewhere (same_surface id other) refl f))
      | false ↦ λ f. behind sets id other ranges (later (same_surface s.id id) (is_set sets id) e)
    ] refl
  where
    later : (a b : Bool) → (a || b) ≡ false → b ≡ false
    later true b h = absurd (cc)
    later false b h = h

    first : (a b : Bool) → (a || b) ≡ false → a ≡ false
    first true b h = absurd (cc)
    first false b h = refl

    elsewhere : (t : Bool) → same_surface id other ≡ t → same_surface s.id other ≡ true → same_surface id other ≡ false
    elsewhere true f g =
        let no_way : false ≡ true = sym (first (same_surface s.id id) (is_set sets id) e) ∙ together s.id other id g (flip other id ∙ f) in absurd (cc)
    elsewhere false f g = f

pub set_behind : (sets : List Ranged) (id other : SurfaceId) (ranges : List SurfaceRange) → is_set (sets ++ record { id = id; ranges = ranges } ∷ []) other ≡ (same_surface id other || is_set sets other)
set_behind [] id other ranges = refl
set_behind (s ∷ sets) id other ranges = grind (arith, nat_tests, set_behind sets id other ranges)

pub ids_behind : (sets : List Ranged) (id : SurfaceId) (ranges : List SurfaceRange) → map (λ s. s.id) (sets ++ record { id = id; ranges = ranges } ∷ []) ≡ map (λ s. s.id) sets ++ id ∷ []
ids_behind [] id ranges = refl
ids_behind (s ∷ sets) id ranges = ap (λ l. s.id ∷ l) (ids_behind sets id ranges)

-- One surface fewer

pub removed_once : (sets : List Ranged) (id : SurfaceId) → has_repeat same_surface (map (λ s. s.id) sets) ≡ false → has_repeat same_surface (map (λ s. s.id) (removing id sets)) ≡ false
unfolding removing
removed_once [] id once = refl
removed_once (s ∷ sets) id once =
    let parts = neither (list_any (same_surface s.id) (map (λ s. s.id) sets)) (has_repeat same_surface (map (λ s. s.id) sets)) once in
    elim (same_surface s.id id) as (λ (t : Bool). has_repeat same_surface (map (λ (s : Ranged). s.id) (cond (not t) (s ∷ removing id sets) (removing id sets))) ≡ false) [
      | true ↦ removed_once sets id parts.1
      | false ↦ no_or _ _ (still_not sets parts.0) (removed_once sets id parts.1)
    ]
  where
    neither : (a b : Bool) → (a || b) ≡ false → (a ≡ false) × (b ≡ false)
    neither true b h = absurd (cc)
    neither false b h = (refl, h)

    no_or : (a b : Bool) → a ≡ false → b ≡ false → (a || b) ≡ false
    no_or a b p q = rw (p, q)

    still_not : (sets : List Ranged) → list_any (same_surface s.id) (map (λ s. s.id) sets) ≡ false → list_any (same_surface s.id) (map (λ s. s.id) (filter (λ s. not (same_surface s.id id)) sets)) ≡ false
    still_not [] h = refl
    still_not (u ∷ sets) h =
        let parts = neither (same_surface s.id u.id) (list_any (same_surface s.id) (map (λ s. s.id) sets)) h in
        elim (same_surface u.id id) as (λ (t : Bool). list_any (same_surface s.id) (map (λ (s : Ranged). s.id) (cond (not t) (u ∷ filter (λ s. not (same_surface s.id id)) sets) (filter (λ s. not (same_surface s.id id)) sets))) ≡ false) [
          | true ↦ still_not sets parts.1
          | false ↦ no_or _ _ parts.0 (still_not sets parts.1)
        ]

-- Places in lists

pub get_last : {A : Type 0} (xs : List A) (x : A) (n : ℕ) → n ≡ length xs → slice_get (xs ++ x ∷ []) n ≡ Some x
get_last [] x n e = ap (slice_get (x ∷ [])) e
get_last (y ∷ xs) x zero e = absurd (omega (arith, e))
get_last (y ∷ xs) x (suc n) e = get_last xs x n (omega (arith, e))

pub get_before : {A : Type 0} (xs : List A) (x : A) (k : ℕ) → (length xs == k) ≡ false → slice_get (xs ++ x ∷ []) k ≡ slice_get xs k
get_before [] x zero e = absurd (cc)
get_before [] x (suc k) e = refl
get_before (y ∷ xs) x zero e = refl
get_before (y ∷ xs) x (suc k) e = get_before xs x k (grind (arith, nat_tests, e))

pub get_within : {A : Type 0} (xs : List A) (k n : ℕ) → k < n → slice_get (take n xs) k ≡ slice_get xs k
get_within xs k zero h = absurd (omega (arith, h))
get_within [] k (suc n) h = refl
get_within (x ∷ xs) zero (suc n) h = refl
get_within (x ∷ xs) (suc k) (suc n) h = get_within xs k n (omega (arith, h))

pub take_long : {A : Type 0} (xs : List A) (n : ℕ) → n ≤ length xs → length (take n xs) ≡ n
take_long xs zero h = refl
take_long [] (suc n) h = absurd (omega (arith, h))
take_long (x ∷ xs) (suc n) h = let rest = take_long xs n (omega (arith, h)) in omega (arith, rest)

pub get_but_last : {A : Type 0} (xs : List A) (n k : ℕ) → n + 1 ≡ length xs → (n == k) ≡ false → slice_get (take (length xs - 1) xs) k ≡ slice_get xs k
get_but_last xs n k e f = grind (arith, nat_tests, get_within xs k, take_long xs, get_over, get_over xs k)

pub found_place : {A : Type 0} (p : A → Bool) (xs : List A) → list_any p xs ≡ true → (k : ℕ) × (x : A) × (slice_get xs k ≡ Some x) × (p x ≡ true)
found_place p [] h = absurd (cc)
found_place p (x ∷ xs) h =
    elim (p x) as (λ (t : Bool). p x ≡ t → (t || list_any p xs) ≡ true → (k : ℕ) × (y : _) × (slice_get (x ∷ xs) k ≡ Some y) × (p y ≡ true)) [
      | true ↦ λ e g. (0, x, refl, e)
      | false ↦ λ e g. let rest = found_place p xs g in (suc rest.0, rest.1, rest.2, rest.3)
    ] refl h

-- Which range names a surface

pub named_with : (sets : List Ranged) (o id : SurfaceId) → is_named_by (ranges_of sets o) id ≡ true → is_named_in sets id ≡ true
unfolding is_named_by is_named_in ranges_of
named_with [] o id h = absurd (cc)
named_with (s ∷ sets) o id h = grind (arith, nat_tests, left_or, right_or (list_any (names id) s.ranges), named_with sets o id)

-- a range that names a surface, and where it is set
pub record Naming (sets : List Ranged) (id : SurfaceId) : Type 0 where
  pub of : SurfaceId
  pub nth : ℕ
  pub range : SurfaceRange
  pub there : slice_get (ranges_of sets of) nth ≡ Some range
  pub named : names id range ≡ true

pub naming : (sets : List Ranged) (id : SurfaceId) → has_repeat same_surface (map (λ s. s.id) sets) ≡ false → is_named_in sets id ≡ true → Naming sets id
unfolding is_named_by is_named_in ranges_of
naming [] id once h = absurd (cc)
naming (s ∷ sets) id once h =
    elim (list_any (names id) s.ranges) as (λ (t : Bool). list_any (names id) s.ranges ≡ t → (t || list_any (λ s. list_any (names id) s.ranges) sets) ≡ true → Naming (s ∷ sets) id) [
      | true ↦ λ e g.
          let found = found_place (names id) s.ranges e in
          record { of = s.id; nth = found.0; range = found.1; there = ap (λ t. slice_get (cond t s.ranges (ranges_of sets s.id)) found.0) (self_same s.id) ∙ found.2; named = found.3 }
      | false ↦ λ e g.
          let parts = neither (list_any (same_surface s.id) (map (λ s. s.id) sets)) (has_repeat same_surface (map (λ s. s.id) sets)) once in
          let rest = naming sets id parts.1 g in
          record { of = rest.of; nth = rest.nth; range = rest.range; there = ap (λ t. slice_get (cond t s.ranges (ranges_of sets rest.of)) rest.nth) (another sets rest.of rest.nth rest.range parts.0 rest.there) ∙ rest.there; named = rest.named }
    ] refl h
  where
    neither : (a b : Bool) → (a || b) ≡ false → (a ≡ false) × (b ≡ false)
    neither true b h = absurd (cc)
    neither false b h = (refl, h)

    another : (sets : List Ranged) (o : SurfaceId) (k : ℕ) (r : SurfaceRange) → list_any (same_surface s.id) (map (λ s. s.id) sets) ≡ false → slice_get (ranges_of sets o) k ≡ Some r → same_surface s.id o ≡ false
    another sets o k r none e =
        elim (same_surface s.id o) as (λ (t : Bool). same_surface s.id o ≡ t → t ≡ false) [
          | true ↦ λ g.
              let empty = unset_ranges sets o (ap (is_set sets) (sym (from_same s.id o g)) ∙ set_ids sets s.id ∙ none) in
              let no_way : None ≡ Some r = sym (ap (λ l. slice_get l k) empty) ∙ e in absurd (cc)
          | false ↦ λ g. refl
        ] refl

-- Several changes

pub changing_unset : (f : List SurfaceRange → List SurfaceRange) (id : SurfaceId) (sets : List Ranged) → is_set sets id ≡ false → changing f id sets ≡ sets
unfolding changing
changing_unset f id [] e = refl
changing_unset f id (s ∷ sets) e = grind (arith, nat_tests, changing_unset f id sets)

pub changing_twice : (f g : List SurfaceRange → List SurfaceRange) (id : SurfaceId) (sets : List Ranged) → changing f id (changing g id sets) ≡ changing (λ xs. f (g xs)) id sets
unfolding changing
changing_twice f g id [] = refl
changing_twice f g id (s ∷ sets) = grind (arith, nat_tests, changing_twice f g id sets)

pub changing_alike : (f g : List SurfaceRange → List SurfaceRange) (id : SurfaceId) (sets : List Ranged) → ((xs : List SurfaceRange) → f xs ≡ g xs) → changing f id sets ≡ changing g id sets
changing_alike f g id sets h = λ i. changing (λ xs. h xs i) id sets

pub changing_same : (f : List SurfaceRange → List SurfaceRange) (id : SurfaceId) (sets : List Ranged) → ((xs : List SurfaceRange) → f xs ≡ xs) → changing f id sets ≡ sets
unfolding changing
changing_same f id [] h = refl
changing_same f id (s ∷ sets) h = grind (arith, nat_tests, changing_same f id sets h)

pub cleared : (f : List SurfaceRange → List SurfaceRange) (id : SurfaceId) (sets : List Ranged) → has_repeat same_surface (map (λ s. s.id) sets) ≡ false → f (ranges_of sets id) ≡ [] → changing f id sets ≡ map (set_one id []) sets
unfolding changing ranges_of
cleared f id [] once e = refl
cleared f id (s ∷ sets) once e =
    let parts = neither (list_any (same_surface s.id) (map (λ s. s.id) sets)) (has_repeat same_surface (map (λ s. s.id) sets)) once in
    elim (same_surface s.id id) as (λ (t : Bool). same_surface s.id id ≡ t → f (cond t s.ranges (ranges_of sets id)) ≡ []
    → cond t (record { id = s.id; ranges = f s.ranges }) s ∷ changing f id sets ≡ cond t (record { id = s.id; ranges = [] }) s ∷ map (set_one id []) sets) [
      | true ↦ λ g h.
          let none : is_set sets id ≡ false = ap (is_set sets) (sym (from_same s.id id g)) ∙ set_ids sets s.id ∙ parts.0 in
          (λ i. record { id = s.id; ranges = h i } ∷ (changing_unset f id sets none ∙ sym (changing_unset (λ _. []) id sets none)) i)
      | false ↦ λ g h. ap (λ l. s ∷ l) (cleared f id sets parts.1 h)
    ] refl e
  where
    neither : (a b : Bool) → (a || b) ≡ false → (a ≡ false) × (b ≡ false)
    neither true b h = absurd (cc)
    neither false b h = (refl, h)

take_both : {A : Type 0} (n m : ℕ) (xs : List A) → m ≤ n → take m (take n xs) ≡ take m xs
take_both n zero xs h = refl
take_both zero (suc m) xs h = absurd (omega (arith, h))
take_both (suc n) (suc m) [] h = refl
take_both (suc n) (suc m) (x ∷ xs) h = ap (λ l. x ∷ l) (take_both n m xs (omega (arith, h)))

abbrev pub but_lasts : ℕ → List SurfaceRange → List SurfaceRange
but_lasts k xs = take (length xs - k) xs

pub next_shorter : (k : ℕ) (xs : List SurfaceRange) → but_last (but_lasts k xs) ≡ but_lasts (k + 1) xs
next_shorter k xs = grind (arith, nat_tests, take_long xs, take_both)

pub all_taken : {A : Type 0} (xs : List A) → take (length xs - 0) xs ≡ xs
all_taken xs = take_all (length xs - 0) xs (omega arith)

pub none_taken : {A : Type 0} (xs : List A) (k : ℕ) → length xs ≤ k → take (length xs - k) xs ≡ []
none_taken xs k h = let nothing : length xs - k ≡ 0 = omega (arith, h) in ap (λ n. take n xs) nothing

longer_behind : (f : List SurfaceRange → List SurfaceRange) (id : SurfaceId) (sets : List Ranged) (s : Ranged) → changing f id (sets ++ s ∷ []) ≡ changing f id sets ++ changing f id (s ∷ [])
unfolding changing
longer_behind f id [] s = refl
longer_behind f id (x ∷ sets) s = ap (λ l. cond (same_surface x.id id) (record { id = x.id; ranges = f x.ranges }) x ∷ l) (longer_behind f id sets s)

-- a surface is set, has no ranges and gets these: they are set for it
pub set_anew : (id : SurfaceId) (ranges : List SurfaceRange) (sets : List Ranged) → changing (λ old. old ++ ranges) id (map (set_one id []) (opening id sets)) ≡ setting id ranges sets
unfolding opening setting changing
set_anew id ranges sets = changing_twice (λ old. old ++ ranges) (λ _. []) id (cond (is_set sets id) sets (sets ++ record { id = id; ranges = [] } ∷ [])) ∙ by_set (is_set sets id) refl
  where
    by_set : (t : Bool) → is_set sets id ≡ t → changing (λ _. ranges) id (cond t sets (sets ++ record { id = id; ranges = [] } ∷ [])) ≡ cond t (map (set_one id ranges) sets) (sets ++ record { id = id; ranges = ranges } ∷ [])
    by_set true e = refl
    by_set false e =
        longer_behind (λ _. ranges) id sets (record { id = id; ranges = [] })
        ∙ (λ i. changing_unset (λ _. ranges) id sets e i ++ cond (self_same id i) (record { id = id; ranges = ranges }) (record { id = id; ranges = [] }) ∷ [])

pub opened_set : (id : SurfaceId) (sets : List Ranged) → is_set (map (set_one id []) (opening id sets)) id ≡ true
unfolding opening changing
opened_set id sets = changed_set (λ _. []) id id (cond (is_set sets id) sets (sets ++ record { id = id; ranges = [] } ∷ [])) ∙ by_set (is_set sets id) refl
  where
    by_set : (t : Bool) → is_set sets id ≡ t → is_set (cond t sets (sets ++ record { id = id; ranges = [] } ∷ [])) id ≡ true
    by_set true e = e
    by_set false e = set_behind sets id id [] ∙ ap (λ t. t || is_set sets id) (self_same id)

pub no_items : {A : Type 0} (xs : List A) → length xs ≡ 0 → xs ≡ []
no_items [] e = refl
no_items (x ∷ xs) e = absurd (omega (arith, e))

-- a surface that has no ranges gets none: nothing changes
pub bare_stays : (id : SurfaceId) (sets : List Ranged) → has_repeat same_surface (map (λ s. s.id) sets) ≡ false → is_set sets id ≡ true → ranges_of sets id ≡ [] → setting id [] sets ≡ sets
unfolding setting
bare_stays id sets once there none =
    ap (λ t. cond t (map (set_one id []) sets) (sets ++ record { id = id; ranges = [] } ∷ [])) there ∙ sym (cleared (λ xs. xs) id sets once none) ∙ changing_same (λ xs. xs) id sets (λ xs. refl)

-- a surface has no ranges, and is not set any more
pub no_ranges : (id : SurfaceId) (sets : List Ranged) → ranges_of (map (set_one id []) sets) id ≡ []
unfolding changing
no_ranges id sets =
    elim (is_set sets id) as (λ (t : Bool). is_set sets id ≡ t → ranges_of (map (set_one id []) sets) id ≡ []) [
      | true ↦ λ e. changed_own (λ _. []) id sets e
      | false ↦ λ e. unset_ranges (map (set_one id []) sets) id (changed_set (λ _. []) id id sets ∙ e)
    ] refl

pub removed_anyway : (id : SurfaceId) (sets : List Ranged) → removing id (map (set_one id []) sets) ≡ removing id sets
unfolding removing
removed_anyway id [] = refl
removed_anyway id (s ∷ sets) = grind (arith, nat_tests, removed_anyway id sets)

append_more : {A : Type 0} (xs ys : List A) (y : A) → (xs ++ ys) ++ y ∷ [] ≡ xs ++ (ys ++ y ∷ [])
append_more [] ys y = refl
append_more (x ∷ xs) ys y = ap (λ l. x ∷ l) (append_more xs ys y)

-- one range more is appended
pub next_longer : (ranges : List SurfaceRange) (k : ℕ) (d : SurfaceRange) (xs : List SurfaceRange) → k < length ranges → one_more (get_or ranges k d) (xs ++ take k ranges) ≡ xs ++ take (k + 1) ranges
next_longer ranges k d xs inside = append_more xs (take k ranges) (get_or ranges k d) ∙ ap (λ l. xs ++ l) (sym (take_more ranges k d inside))

pub nothing_longer : {A : Type 0} (xs : List A) → xs ++ [] ≡ xs
nothing_longer [] = refl
nothing_longer (x ∷ xs) = ap (λ l. x ∷ l) (nothing_longer xs)
