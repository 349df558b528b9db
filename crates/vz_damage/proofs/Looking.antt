-- What is told of a surface, as it is looked up, put in and taken out.
use Rattle.std.proofs.Common.{◌≡◌, ℕ, ◌+◌, ◌≤◌, Bool, false, ◌&&◌, ◌==◌, zero, suc, List, [], ◌∷◌, Option, Some, None, refl, ap, ◌∙◌, cond, length, slice_get, arith}
use Rattle.std.specs.Option.{option_map}
use Rattle.std.specs.Map.{lookup, values_of}
use Rattle.indexmap.specs.Layout.{set_value_at}
use Rattle.vz_ids.specs.declared.SurfaceId.{SurfaceId}
use Rattle.vz_ids.specs.declared.SurfaceRange.{SurfaceRange}
use Rattle.vz_rules.specs.World.{Aggregation}
use Rattle.vz_rules.proofs.Reached.{self_same}
use Rattle.vz_ids.specs.Ids.{same_surface, same_sink}
use Rattle.vz_ids.specs.contracts.SurfaceIdPartialEq.TheImpl as surface_eq
use Rattle.vz_damage.specs.Told.{Told, told_on, with_seen}
use Rattle.std.proofs.lemmas.Bool.Decides.{nat_tests}

abbrev pub same_id : SurfaceId → SurfaceId → Bool
same_id = (surface_eq.ghosts).eq

shift : (s p c t : Bool) → (s && (p && (c && t))) ≡ (s && ((p && c) && t))
shift s p c t = grind (arith, nat_tests)

pub compared : (a b : SurfaceId) → same_id a b ≡ same_surface a b
compared a b = shift (same_sink a.sink b.sink) (a.local.parent == b.local.parent) (a.local.child == b.local.child) (a.local.token.0 == b.local.token.0)

-- a look-up among the entries of a map
pub looked : (xs : List (SurfaceId × Told)) (id : SurfaceId) → told_on xs id ≡ lookup (same_id id) xs
unfolding told_on
looked [] id = refl
looked (x ∷ xs) id = grind (arith, nat_tests, looked xs id, compared id x.0)

-- one surface has something told of it, or nothing, and the others what they had
abbrev pub IsChanged : List (SurfaceId × Told) → List (SurfaceId × Told) → SurfaceId → Option Told → Type 0
IsChanged old new id w = (q : SurfaceId) → lookup (same_id q) new ≡ cond (same_id id q) w (lookup (same_id q) old)

pub told_after : (old new : List (SurfaceId × Told)) (id : SurfaceId) (w : Option Told) → IsChanged old new id w → (q : SurfaceId) → told_on new q ≡ cond (same_surface id q) w (told_on old q)
told_after old new id w changed q = grind (arith, nat_tests, looked new q, looked old q, compared id q)

pub told_here : (old new : List (SurfaceId × Told)) (id : SurfaceId) (w : Option Told) → IsChanged old new id w → told_on new id ≡ w
told_here old new id w changed = told_after old new id w changed id ∙ ap (λ t. cond t w (told_on old id)) (self_same id)

pub told_there : (old new : List (SurfaceId × Told)) (id : SurfaceId) (w : Option Told) → IsChanged old new id w → (other : SurfaceId) → same_surface id other ≡ false
    → told_on new other ≡ told_on old other
told_there old new id w changed other apart = told_after old new id w changed other ∙ ap (λ t. cond t w (told_on old other)) apart

-- The active ones are seen, one after another

-- the first so many are seen
unfoldable pub seen_to : ℕ → List (SurfaceId × Told) → List (SurfaceId × Told)
seen_to zero xs = xs
seen_to (suc k) [] = []
seen_to (suc k) (x ∷ xs) = (x.0, with_seen x.1) ∷ seen_to k xs

pub see_next : (k : ℕ) (xs : List (SurfaceId × Told)) (t : Told) → Some t ≡ slice_get (values_of (seen_to k xs)) k → set_value_at (seen_to k xs) k (with_seen t) ≡ seen_to (suc k) xs
unfolding seen_to
see_next zero [] t h = absurd (cc)
see_next zero (x ∷ xs) t h = grind (arith, nat_tests)
see_next (suc k) [] t h = absurd (cc)
see_next (suc k) (x ∷ xs) t h = ap (λ l. (x.0, with_seen x.1) ∷ l) (see_next k xs t h)

pub see_none : (k : ℕ) (xs : List (SurfaceId × Told)) → None ≡ slice_get (values_of (seen_to k xs)) k → seen_to k xs ≡ seen_to (suc k) xs
unfolding seen_to
see_none zero [] h = refl
see_none zero (x ∷ xs) h = absurd (cc)
see_none (suc k) [] h = refl
see_none (suc k) (x ∷ xs) h = ap (λ l. (x.0, with_seen x.1) ∷ l) (see_none k xs h)

pub seen_all : (k : ℕ) (xs : List (SurfaceId × Told)) → length xs ≤ k → (id : SurfaceId) → told_on (seen_to k xs) id ≡ option_map with_seen (told_on xs id)
unfolding seen_to told_on
seen_all zero [] h id = refl
seen_all zero (x ∷ xs) h id = absurd (omega (arith, h))
seen_all (suc k) [] h id = refl
seen_all (suc k) (x ∷ xs) h id = grind (arith, nat_tests, seen_all k xs)

-- The turn of a place

pub seen_first : (xs : List (SurfaceId × Told)) → xs ≡ seen_to 0 xs
unfolding seen_to
seen_first xs = refl

-- a place whose value is seen
pub turn_some : (k : ℕ) (xs now : List (SurfaceId × Told)) (t new : Told) → now ≡ seen_to k xs → Some t ≡ slice_get (values_of now) k → new ≡ with_seen t
    → set_value_at now k new ≡ seen_to (k + 1) xs
turn_some k xs now t new is found sees = grind (arith, nat_tests, see_next k xs t)

-- there is no such place
pub turn_none : (k : ℕ) (xs now : List (SurfaceId × Told)) → now ≡ seen_to k xs → None ≡ slice_get (values_of now) k → now ≡ seen_to (k + 1) xs
turn_none k xs now is found = is ∙ see_none k xs (found ∙ ap (λ l. slice_get (values_of l) k) is) ∙ ap (λ n. seen_to n xs) (omega arith)

-- What is remembered

abbrev pub last_in : Option SurfaceId → List (SurfaceRange × Option SurfaceId) → Option Aggregation
last_in root shown = option_map (λ (r : SurfaceId). record { root = r; indices = []; ranges = shown }) root
