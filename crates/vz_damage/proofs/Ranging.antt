-- What ranges showed, as they are looked up and noted.
use Rattle.std.proofs.Common.{◌≡◌, ℕ, zero, suc, ◌+◌, take, length, slice_get, Bool, true, false, Option, Some, None, is_some, [], ◌∷◌, ◌++◌, refl, ap, sym, ◌∙◌}
use Rattle.std.proofs.Common.{cond, find, arith, if◌then◌else◌, Bor}
use Rattle.std.proofs.lemmas.Bool.Decides.{nat_tests}
use Rattle.std.specs.Option.{option_map, option_copied}
use Rattle.std.specs.List.{list_any, AllByRecursion, IsDistinct}
use Rattle.std.proofs.lemmas.List.{take_all}
use Rattle.std.specs.Map.{lookup, keys_of}
use Rattle.indexmap.specs.IndexMap.{insert_entry}
use Rattle.vz_ids.specs.declared.SurfaceId.{SurfaceId}
use Rattle.vz_ids.specs.declared.SurfaceRange.{SurfaceRange}
use Rattle.vz_ids.specs.Ids.{same_range}
use Rattle.vz_ids.specs.contracts.SurfaceRangePartialEq.TheImpl as range_eq
use Rattle.vz_rules.specs.Closure.{adding}
use Rattle.vz_rules.specs.Damage.{of_same_range, shows_other, is_switched}
use Rattle.vz_rules.specs.World.{FrameData, Aggregation}
use Rattle.vz_damage.specs.Measured.{Shown}
use Rattle.vz_damage.proofs.Looking.{same_id, compared}
use Rattle.vz_rules.proofs.Facts.{flip as eq_sym}

abbrev pub same_key : SurfaceRange → SurfaceRange → Bool
same_key = (range_eq.ghosts).eq

compared_range : (a b : SurfaceRange) → same_key a b ≡ same_range a b
compared_range a b = grind (arith, nat_tests, same_id a.end b.end, compared, compared a.end b.end)

range_sym : (a b : SurfaceRange) → same_range a b ≡ same_range b a
range_sym a b = grind (arith, nat_tests, eq_sym)

pair_step : {K A : Type 0} (tied : Bool) (x : K × A) (rest : Option (K × A))
    → cond tied (Some x.1) (option_map (λ (p : K × A). p.1) rest) ≡ option_map (λ (p : K × A). p.1) (cond tied (Some x) rest)
pair_step tied x rest = grind (arith, nat_tests)

-- a look-up among the entries of a map
looked_range : (xs : Shown) (r : SurfaceRange) → lookup (same_key r) xs ≡ option_map (λ (x : SurfaceRange × Option SurfaceId). x.1)
    (find (λ (x : SurfaceRange × Option SurfaceId). same_range x.0 r) xs)
looked_range [] r = refl
looked_range (x ∷ xs) r = grind (arith, nat_tests, compared_range r x.0, range_sym r x.0, looked_range xs r, pair_step (same_range x.0 r) x)

-- whether a range is switched, by what was found of it
pub switched_some : (a : Aggregation) (xs : Shown) (r : SurfaceRange) (before : Option SurfaceId) (now : Option FrameData)
    → a.ranges ≡ xs → Some before ≡ lookup (same_key r) xs → shows_other before now ≡ is_switched a r now
switched_some a xs r before now e h = grind (arith, nat_tests, looked_range xs r)

pub switched_none : (a : Aggregation) (xs : Shown) (r : SurfaceRange) (now : Option FrameData) → a.ranges ≡ xs
    → ◌≡◌ {A = Option (Option SurfaceId)} None (lookup (same_key r) xs) → true ≡ is_switched a r now
switched_none a xs r now e h = grind (arith, nat_tests, looked_range xs r)

-- Notes

any_looked : (xs : Shown) (r : SurfaceRange) (v : Option SurfaceId) → list_any (of_same_range (r, v)) xs ≡ is_some (lookup (same_key r) xs)
any_looked [] r v = refl
any_looked (x ∷ xs) r v = grind (arith, nat_tests, any_looked xs r v, compared_range r x.0)

-- a range that was met is not noted again
pub noted_again : (xs : Shown) (r : SurfaceRange) (v : Option SurfaceId) → is_some (lookup (same_key r) xs) ≡ true
    → xs ≡ adding of_same_range xs ((r, v) ∷ [])
noted_again xs r v there = sym (ap (λ (t : Bool). if t then xs else xs ++ (r, v) ∷ []) (any_looked xs r v ∙ there))

insert_step : (t : Bool) (x : SurfaceRange × Option SurfaceId) (v : Option SurfaceId) (xs new : Shown) (rest : Option
    (Option SurfaceId)) (k : SurfaceRange) → is_some (cond t (Some x.1) rest) ≡ false → (is_some rest ≡ false → new ≡ xs ++ (k, v) ∷ [])
    → (if t then (x.0, v) ∷ xs else x ∷ new) ≡ (x ∷ xs) ++ (k, v) ∷ []
insert_step t x v xs new rest k e h = grind (arith, nat_tests)

inserted : (xs : Shown) (r : SurfaceRange) (v : Option SurfaceId) → is_some (lookup (same_key r) xs) ≡ false
    → insert_entry same_key xs r v ≡ xs ++ (r, v) ∷ []
inserted [] r v e = refl
inserted (x ∷ xs) r v e = insert_step (same_key r x.0) x v xs (insert_entry same_key xs r v) (lookup (same_key r) xs) r e (inserted xs r v)

-- one that was not is
pub noted_new : (xs new : Shown) (r : SurfaceRange) (v : Option SurfaceId) → is_some (lookup (same_key r) xs) ≡ false
    → new ≡ insert_entry same_key xs r v → new ≡ adding of_same_range xs ((r, v) ∷ [])
noted_new xs new r v none e = grind (arith, nat_tests, inserted xs r v none, any_looked xs r v)

pub copied_some : {A : Type 0} (o : Option (Bor A)) → is_some (option_copied o) ≡ is_some o
copied_some o = grind (arith, nat_tests)

-- The entry at a place

-- the entry is of this range, and has this surface
pub entry_is : (xs : Shown) (k : ℕ) (o r : SurfaceRange) (b v : Option SurfaceId) → Some (o, b) ≡ slice_get xs k → o ≡ r → b ≡ v
    → slice_get xs k ≡ Some (r, v)
entry_is xs k o r b v at same shown = grind (arith, nat_tests)

apart_at : (k : ℕ) (xs : Shown) (x : SurfaceRange) (y : SurfaceRange × Option SurfaceId)
    → AllByRecursion (λ z. same_key x z ≡ false) (keys_of xs) → slice_get xs k ≡ Some y → same_range y.0 x ≡ false
apart_at zero [] x y all at = absurd (cc)
apart_at (suc k) [] x y all at = absurd (cc)
apart_at zero (z ∷ xs) x y all at = grind (arith, nat_tests, compared_range x y.0, range_sym x y.0, all.0)
apart_at (suc k) (z ∷ xs) x y all at = apart_at k xs x y all.1 at

-- none before it is of the same range
pub first_at : (k : ℕ) (xs : Shown) (y : SurfaceRange × Option SurfaceId) → IsDistinct same_key (keys_of xs) → slice_get xs k ≡ Some y
    → list_any (of_same_range y) (take k xs) ≡ false
unfolding IsDistinct
first_at zero [] y d at = absurd (cc)
first_at (suc k) [] y d at = absurd (cc)
first_at zero (x ∷ xs) y d at = refl
first_at (suc k) (x ∷ xs) y d at = grind (arith, nat_tests, apart_at k xs x.0 y d.0 at, first_at k xs y d.1 at)

take_more : (k : ℕ) (xs : Shown) (y : SurfaceRange × Option SurfaceId) → slice_get xs k ≡ Some y → take (suc k) xs ≡ take k xs ++ y ∷ []
take_more zero [] y at = absurd (cc)
take_more (suc k) [] y at = absurd (cc)
take_more zero (x ∷ xs) y at = grind (arith, nat_tests)
take_more (suc k) (x ∷ xs) y at = ap (λ l. x ∷ l) (take_more k xs y at)

-- it is noted by a step over it
pub noted_next : (k : ℕ) (xs : Shown) (y : SurfaceRange × Option SurfaceId) → slice_get xs k ≡ Some y
    → list_any (of_same_range y) (take k xs) ≡ false → take (k + 1) xs ≡ adding of_same_range (take k xs) (y ∷ [])
noted_next k xs y at first =
    let one : k + 1 ≡ suc k = omega arith in
    ap (λ n. take n xs) one ∙ take_more k xs y at
    ∙ sym (ap (λ (t : Bool). if t then take k xs else take k xs ++ y ∷ []) first)

take_twice : (k : ℕ) (xs : Shown) → take k (take k xs) ≡ take k xs
take_twice zero xs = refl
take_twice (suc k) [] = refl
take_twice (suc k) (x ∷ xs) = ap (λ l. x ∷ l) (take_twice k xs)

-- one that was met is not noted again
pub noted_kept : (k : ℕ) (all xs : Shown) (r : SurfaceRange) (v : Option SurfaceId) → xs ≡ take k all
    → is_some (lookup (same_key r) xs) ≡ true → take k xs ≡ adding of_same_range (take k all) ((r, v) ∷ [])
noted_kept k all xs r v e there =
    ap (take k) e ∙ take_twice k all ∙ noted_again (take k all) r v (ap (λ l. is_some (lookup (same_key r) l)) (sym e) ∙ there)

-- another is, and is the last one then
pub noted_put : (k n : ℕ) (all xs new : Shown) (r : SurfaceRange) (v : Option SurfaceId) → xs ≡ take k all
    → is_some (lookup (same_key r) xs) ≡ false → new ≡ insert_entry same_key xs r v → n ≡ length new
    → take n new ≡ adding of_same_range (take k all) ((r, v) ∷ [])
noted_put k n all xs new r v e none put long =
    take_all n new (omega (arith, long)) ∙ noted_new xs new r v none put ∙ ap (λ l. adding of_same_range l ((r, v) ∷ [])) e
