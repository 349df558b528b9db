-- Places that are noted for surfaces that are out.
use Rattle.std.proofs.Common.{◌≡◌, ℕ, zero, suc, ◌+◌, ◌<◌, ◌≤◌, ◌==◌, false, Option, Some, None, List, [], ◌∷◌, ◌++◌, length, position, slice_get, slice_set, drop, refl, ap, sym, ◌∙◌, arith, cond}
use Rattle.std.specs.List.{list_any, position_or_len, filter_map}
use Rattle.std.specs.Option.{option_map, option_map_or}
use Rattle.std.proofs.lemmas.List.Folds.{list_any-append}
use Rattle.std.proofs.lemmas.Bool.Decides.{nat_tests}
use Rattle.vz_ids.specs.declared.SurfaceId.{SurfaceId}
use Rattle.vz_ids.specs.Ids.{same_surface}
use Rattle.vz_ids.specs.declared.SurfaceRange.{SurfaceRange}
use Rattle.vz_frame.specs.Roomy.{Roomy}
use Rattle.vz_rules.specs.Closure.{adding}
use Rattle.indexmap.specs.IndexMap.{get}
use Rattle.vz_refs.specs.declared.notes.Notes.{Notes}
use Rattle.vz_refs.specs.Noted.{noted_in, noted, IsNoted, AreNoted}
use Rattle.vz_rules.proofs.Marking.{from_or}
use Rattle.vz_rules.proofs.Reached.{from_same, self_same}
use Rattle.vz_refs.proofs.Same.{from_eqb}
use Rattle.vz_refs.proofs.Changing.{get_last, found_there}

-- one that stands at its place is out, and one that does not is not
pub stands : (placed : SurfaceId → Option ℕ) (out : List SurfaceId) (id : SurfaceId) (place : ℕ) → AreNoted placed out → Some place ≡ placed id
    → option_map_or (same_surface id) (slice_get out place) false ≡ list_any (same_surface id) out
stands placed out id place good e = grind (arith, nat_tests, found_there (same_surface id) out place, self_same id)

-- Two surfaces at one place of the index are the same

same_place_or_len : (keys : List SurfaceId) (a b : SurfaceId) → position_or_len (same_surface a) keys ≡ position_or_len (same_surface b) keys → position_or_len (same_surface a) keys < length keys → a ≡ b
same_place_or_len [] a b e h = absurd (omega (arith, h))
same_place_or_len (k ∷ keys) a b e h = grind (arith, nat_tests, same_place_or_len keys a b, from_same a k, from_same b k)

at_index : (keys : List SurfaceId) (a : SurfaceId) (i : ℕ) → position (same_surface a) keys ≡ Some i → (position_or_len (same_surface a) keys ≡ i) × (i < length keys)
at_index keys a i e = grind (arith, nat_tests)

one_index : (keys : List SurfaceId) (a b : SurfaceId) (i : ℕ) → position (same_surface a) keys ≡ Some i → position (same_surface b) keys ≡ Some i → a ≡ b
one_index keys a b i e f = grind (arith, nat_tests, at_index keys a i e, at_index keys b i f, same_place_or_len keys a b)

-- A place more

set_same : (xs : List ℕ) (i v p : ℕ) → slice_get (slice_set xs i v) i ≡ Some p → p ≡ v
set_same [] i v p e = absurd (cc)
set_same (x ∷ xs) zero v p e = let is : v ≡ p = cc in sym is
set_same (x ∷ xs) (suc i) v p e = set_same xs i v p e

set_else : (xs : List ℕ) (i j v : ℕ) → (i == j) ≡ false → slice_get (slice_set xs i v) j ≡ slice_get xs j
set_else [] i j v e = refl
set_else (x ∷ xs) zero zero v e = absurd (cc)
set_else (x ∷ xs) zero (suc j) v e = refl
set_else (x ∷ xs) (suc i) zero v e = refl
set_else (x ∷ xs) (suc i) (suc j) v e = set_else xs i j v (grind (arith, nat_tests, e))

pub set_past : (xs : List ℕ) (i v : ℕ) → length xs ≤ i → slice_set xs i v ≡ xs
set_past [] i v h = refl
set_past (x ∷ xs) zero v h = absurd (omega (arith, h))
set_past (x ∷ xs) (suc i) v h = ap (λ l. x ∷ l) (set_past xs i v (omega (arith, h)))

get_front : (xs : List SurfaceId) (y : SurfaceId) (k : ℕ) (x : SurfaceId) → slice_get xs k ≡ Some x → slice_get (xs ++ y ∷ []) k ≡ Some x
get_front [] y k x e = absurd (cc)
get_front (z ∷ xs) y zero x e = e
get_front (z ∷ xs) y (suc k) x e = get_front xs y k x e

-- Notes of a surface that has an index, and of one that has none

module _ (keys : List SurfaceId) (old new : Notes) (id : SurfaceId) (place : ℕ) where
  -- at an index
  pub noted_placed : (i : ℕ) → position (same_surface id) keys ≡ Some i → new.places.items ≡ slice_set old.places.items i place → ((q : SurfaceId) → get same_surface new.others q ≡ get same_surface old.others q)
      → IsNoted (noted_in keys old) (noted_in keys new) id place
  noted_placed i at placed others = grind (arith, nat_tests, set_same old.places.items i place, one_index keys id, from_eqb i, self_same id, set_else old.places.items i)

  -- under its own name
  pub noted_named : position (same_surface id) keys ≡ None → new.places.items ≡ old.places.items
      → ((q : SurfaceId) → get same_surface new.others q ≡ cond (same_surface id q) (option_map (λ _. place) (get same_surface old.others q)) (get same_surface old.others q))
      → IsNoted (noted_in keys old) (noted_in keys new) id place
  noted_named none placed others = grind (arith, nat_tests, self_same id)

  -- nothing is noted where there is no place
  pub noted_nowhere : (i : ℕ) → position (same_surface id) keys ≡ Some i → length old.places.items ≤ i → new.places.items ≡ old.places.items → ((q : SurfaceId) → get same_surface new.others q ≡ get same_surface old.others q)
      → IsNoted (noted_in keys old) (noted_in keys new) id place
  noted_nowhere i at past placed others = noted_placed i at (placed ∙ sym (set_past old.places.items i place past)) others

-- one more is out, and stands where it was noted
pub noted_more : (before after : SurfaceId → Option ℕ) (out : List SurfaceId) (id : SurfaceId) (place : ℕ) → AreNoted before out → IsNoted before after id place → place ≡ length out → AreNoted after (out ++ id ∷ [])
noted_more before after out id place good now end other p e there = grind (arith, nat_tests, from_same, get_last, list_any-append, get_front, self_same, from_or)

-- what the ranges from a place on show comes behind what is there
abbrev pub AreFollowed : (SurfaceRange → Option SurfaceId) → List SurfaceRange → ℕ → Roomy SurfaceId → List SurfaceId → Option Notes → Roomy SurfaceId → Type 0
AreFollowed shows ranges k before keys notes out =
    (adding same_surface out.list (filter_map shows (drop k ranges)) ≡ adding same_surface before.list (filter_map shows ranges))
    × (length before.list + before.spare ≤ length out.list + out.spare) × AreNoted (noted keys notes) out.list
