-- How many submissions are in a roster.
use Rattle.std.proofs.Common.{◌≡◌, ℕ, suc, ◌+◌, ◌≤◌, Bool, true, false, not, Some, List, [], ◌∷◌, refl, ap, ◌∙◌, arith, cond}
use Rattle.std.proofs.Common.{IsFalse, Contains, length, map, filter, slice_get}
use Rattle.std.proofs.{lemmas.Bool.both_ways, lemmas.List.Filters.length-filter_both, lemmas.Bool.Decides.nat_tests}
use Rattle.std.specs.List.{list_any}
use Rattle.vz_ids.specs.{declared.Sub.Sub, Ids.same_sub}
use Rattle.vz_rules.specs.World.{FrameData, Submission, active_frames, has_sub, is_active, sub_of}
use Rattle.vz_rules.specs.{Walk.Visit, Walk.goes_into, Kept.stands_in}
use Rattle.vz_rules.proofs.Members.{contains_here, contains_there, contains_at, contains_map, map_contains}
use Rattle.vz_rules.proofs.Members.{any_at, any_from, none_at, filter_at, filter_has}
use Rattle.vz_rules.proofs.Kept_accepted.{subs_differ}
use Rattle.vz_surfaces.specs.{Stored.Stored, Reading.seen_frames, Keeping.KeepsStored}
use Rattle.vz_surface_manager.specs.{Flown.Flown, Flown.subs_of, Rosters.flown_as, Rosters.flown_in, Rosters.same_flown}
use Rattle.vz_surface_manager.proofs.Gathered.{Once}

-- No two of one name

abbrev pub Apart : {A : Type 0} → (A → Sub) → List A → Type 0
Apart name [] = Unit {0}
Apart name (x ∷ xs) = IsFalse (has_sub (map name xs) (name x)) × Apart name xs

apart_from : {A : Type 0} (name : A → Sub) (xs : List A)
    → ((n m : ℕ) (x y : A) → slice_get xs n ≡ Some x → slice_get xs m ≡ Some y → same_sub (name x) (name y) ≡ true → n ≡ m)
    → Apart name xs
apart_from name [] h = tt
apart_from name (x ∷ xs) h =
    (none (has_sub (map name xs) (name x)) refl, apart_from name xs (λ n m y z p q e. omega (arith, h (suc n) (suc m) y z p q e)))
  where
    none : (b : Bool) → has_sub (map name xs) (name x) ≡ b → has_sub (map name xs) (name x) ≡ false
    none false e = e
    none true e =
        let s = any_at (same_sub (name x)) (map name xs) e in
        let m = contains_map name xs s.0 s.1 in
        let n = contains_at xs m.0 m.1 in
        let same = h 0 (suc n.0) x m.0 refl n.1 (ap (same_sub (name x)) m.2 ∙ s.2) in
        absurd (omega (arith, same))

fewer_names : {A : Type 0} (name : A → Sub) (xs ys : List A) (sub : Sub) → ((x : A) → Contains ys x → Contains xs x)
    → has_sub (map name xs) sub ≡ false → has_sub (map name ys) sub ≡ false
fewer_names name xs ys sub all none = by (has_sub (map name ys) sub) refl
  where
    by : (b : Bool) → has_sub (map name ys) sub ≡ b → has_sub (map name ys) sub ≡ false
    by false e = e
    by true e =
        let s = any_at (same_sub sub) (map name ys) e in
        let m = contains_map name ys s.0 s.1 in
        absurd (both_ways (has_sub (map name xs) sub) none
        (any_from (same_sub sub) (map name xs) (name m.0) (map_contains name xs m.0 (all m.0 m.1)) (ap (same_sub sub) m.2 ∙ s.2)))

apart_filter : {A : Type 0} (name : A → Sub) (p : A → Bool) (xs : List A) → Apart name xs → Apart name (filter p xs)
apart_filter name p [] h = tt
apart_filter name p (x ∷ xs) h =
    elim (p x) as (λ (t : Bool). Apart name (cond t (x ∷ filter p xs) (filter p xs))) [
      | true ↦ (fewer_names name xs (filter p xs) (name x) (λ y c. (filter_at p xs y c).0) h.0, apart_filter name p xs h.1)
      | false ↦ apart_filter name p xs h.1
    ]

map_twice : {A B : Type 0} (f : A → B) (name : B → Sub) (xs : List A) → map name (map f xs) ≡ map (λ (x : A). name (f x)) xs
map_twice f name [] = refl
map_twice f name (x ∷ xs) = ap (λ (l : List Sub). name (f x) ∷ l) (map_twice f name xs)

apart_mapped : {A B : Type 0} (f : A → B) (name : B → Sub) (xs : List A) → Apart (λ (x : A). name (f x)) xs → Apart name (map f xs)
apart_mapped f name [] h = tt
apart_mapped f name (x ∷ xs) h = grind (arith, nat_tests, map_twice f name xs, apart_mapped f name xs h.1)

apart_once : (xs : List Flown) → Apart (λ (f : Flown). f.0) xs → Once xs
apart_once [] h = tt
apart_once (x ∷ xs) h = (h.0, apart_once xs h.1)

-- no two frames of a store are of one submission
pub seen_apart : (st : Stored) → KeepsStored st → Apart (λ (i : FrameData). i.sub) (seen_frames st)
seen_apart st keeps =
    apart_filter (λ (i : FrameData). i.sub) (λ (i : FrameData). stands_in st.surfaces i.id) (active_frames st.subs)
    (apart_mapped (λ (s : Submission). s.submitted) (λ (i : FrameData). i.sub) (filter is_active st.subs)
    (apart_filter (λ (s : Submission). sub_of s) is_active st.subs
    (apart_from (λ (s : Submission). sub_of s) st.subs (subs_differ st.surfaces st.subs keeps.numbers))))

-- what is drawn of such frames is drawn once
pub drawn_once : (active : List FrameData) (visits : List Visit) → Apart (λ (i : FrameData). i.sub) active → Once (flown_in active visits)
unfolding flown_in
drawn_once active visits h =
    apart_once (map flown_as (filter (λ (i : FrameData). list_any (goes_into i) visits) active))
    (apart_mapped flown_as (λ (f : Flown). f.0) (filter (λ (i : FrameData). list_any (goes_into i) visits) active)
    (apart_filter (λ (i : FrameData). i.sub) (λ (i : FrameData). list_any (goes_into i) visits) active h))

-- The same submissions, each once

one_less : (ys : List Flown) (x : Flown) → Contains (filter (same_flown x) ys) x
    → length (filter (λ (f : Flown). not (same_flown x f)) ys) + 1 ≤ length ys
one_less ys x c = grind (arith, nat_tests, length-filter_both (same_flown x))

fewer : ((f : Flown) → same_flown f f ≡ true) → (xs ys : List Flown) → Once xs → ((f : Flown) → Contains xs f → Contains ys f)
    → length xs ≤ length ys
fewer own [] ys h all = omega arith
fewer own (x ∷ xs) ys h all =
    let others : Flown → Bool = λ (f : Flown). not (same_flown x f) in
    let rest : length xs ≤ length (filter others ys) = fewer own xs (filter others ys) h.1 (λ f c.
    filter_has others ys f (all f (contains_there x f xs c))
    (ap not (none_at (same_sub x.0) (subs_of xs) f.0 h.0 (map_contains (λ (g : Flown). g.0) xs f c)))) in
    omega (arith, rest, one_less ys x (filter_has (same_flown x) ys x (all x (contains_here x xs)) (own x)))

pub as_many : ((f : Flown) → same_flown f f ≡ true) → (xs ys : List Flown) → Once xs → Once ys
    → ((f : Flown) → Contains xs f → Contains ys f) → ((f : Flown) → Contains ys f → Contains xs f) → length xs ≡ length ys
as_many own xs ys once too all only = omega (arith, fewer own xs ys once all, fewer own ys xs too only)
