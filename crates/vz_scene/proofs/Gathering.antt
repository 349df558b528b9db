-- Surfaces that are gathered, one more at a time.
use Rattle.std.proofs.Common.{◌≡◌, ℕ, ◌+◌, ◌<◌, Bool, true, false, not, List, [], ◌∷◌, ◌++◌, drop, length, get_or, arith}
use Rattle.std.specs.BTreeSet.{BTreeSet, contains}
use Rattle.std.proofs.{lemmas.List.drop_more, lemmas.Bool.Decides.nat_tests}
use Rattle.vz_ids.specs.{declared.SurfaceId.SurfaceId, Ids.same_surface}
use Rattle.vz_rules.specs.Closure.{adding}
use Rattle.vz_scene.specs.{Order.by_surface, Gathered.AreIn}

-- one that was not there is added
pub adds_one : (set : BTreeSet SurfaceId) (list longer : List SurfaceId) (id : SurfaceId) (fresh : Bool) → AreIn set list
    → fresh ≡ not (contains by_surface set id) → fresh ≡ true → longer ≡ list ++ id ∷ [] → longer ≡ adding same_surface list (id ∷ [])
adds_one set list longer id fresh are told is e = grind (arith, nat_tests)

-- one that was there is not
pub adds_none : (set : BTreeSet SurfaceId) (list : List SurfaceId) (id : SurfaceId) (fresh : Bool) → AreIn set list
    → fresh ≡ not (contains by_surface set id) → fresh ≡ false → list ≡ adding same_surface list (id ∷ [])
adds_none set list id fresh are told is = grind (arith, nat_tests)

-- what is added one by one is added
pub added_next : {A : Type 0} (same : A → A → Bool) (all old new ids : List A) (k : ℕ) (d : A) → k < length ids
    → new ≡ adding same old (get_or ids k d ∷ []) → all ≡ adding same old (drop k ids) → all ≡ adding same new (drop (k + 1) ids)
added_next same all old new ids k d h is e = grind (arith, nat_tests, drop_more ids k d h)
