-- How many surfaces are set and temporary as one's ranges are set.
use Rattle.std.proofs.Common.{◌≡◌, ◌+◌, ◌≤◌, Bool, not, List, [], ◌∷◌, ◌++◌, length, filter, refl, ap, arith}
use Rattle.std.proofs.{lemmas.List.length-map, lemmas.Bool.Decides.nat_tests}
use Rattle.vz_ids.specs.{declared.SurfaceId.SurfaceId, declared.SurfaceRange.SurfaceRange}
use Rattle.vz_refs.specs.Referring.{Ranged, Temporary, set_one, setting, is_named_by, unnamed}

pushed : (xs : List Ranged) (x : Ranged) → length (xs ++ x ∷ []) ≡ length xs + 1
pushed [] x = refl
pushed (y ∷ xs) x = omega (arith, pushed xs x)

-- one more at most is set
pub one_set : (id : SurfaceId) (ranges : List SurfaceRange) (old new : List Ranged) → new ≡ setting id ranges old → length new ≤ length old + 1
unfolding setting
one_set id ranges old new e = grind (arith, nat_tests, length-map old (set_one id ranges), pushed old)

-- a filter keeps no more
pub fewer : {A : Type 0} (p : A → Bool) (xs : List A) → length (filter p xs) ≤ length xs
fewer p [] = omega arith
fewer p (x ∷ xs) = grind (arith, nat_tests, fewer p xs)

-- none more is temporary
pub none_more : (ranges : List SurfaceRange) (old new : List Temporary) → new ≡ unnamed ranges old → length new ≤ length old
unfolding unnamed
none_more ranges old new e = omega (arith, ap length e, fewer (λ (t : Temporary). not (is_named_by ranges t.id)) old)
