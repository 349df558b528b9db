-- As many are there as the map has, and they are the same.
use Rattle.std.proofs.Common.{◌≡◌, ℕ, Bool, true, false, ◌&&◌, ◌||◌, ◌⊎◌, Option, Some, None, is_some, List, [], ◌∷◌, map, filter, length, zero, suc, slice_get, refl, ap, sym, inl, inr, ◌∙◌, arith, cond}
use Rattle.std.specs.List.{list_any, AllByRecursion, IsDistinct}
use Rattle.std.specs.Option.{option_map}
use Rattle.std.specs.Map.{lookup, keys_of}
use Rattle.std.proofs.lemmas.Map.Made.{is_some-lookup}
use Rattle.std.proofs.lemmas.Map.Entries.{length-keys_of, lookup_from_place}
use Rattle.vz_ids.specs.declared.SurfaceId.{SurfaceId}
use Rattle.vz_ids.specs.Ids.{same_surface}
use Rattle.vz_frame.specs.Frame.{has_repeat}
use Rattle.vz_refs.specs.declared.seats.Name.{Name}
use Rattle.vz_refs.specs.declared.seats.Kept.{Kept}
use Rattle.vz_refs.specs.declared.seats.Seats.{Seats}
use Rattle.vz_refs.specs.declared.temporaries.Named.{Named}
use Rattle.vz_refs.specs.declared.temporaries.Numbers.{Numbers}
use Rattle.vz_refs.specs.Lasting.{same_name, kept_in, surface_in, temporary_of, lasting_in, all_in, IsGiven, IsKept}
use Rattle.vz_rules.proofs.Marking.{fits, left_or, right_or, from_or}
use Rattle.vz_refs.proofs.Named.{from_name, self_name, name_laws, kept_of}
pub use Rattle.vz_rules.proofs.Members.{same_tests as both_ways}
use Rattle.vz_rules.proofs.Facts.{length_map}
use Rattle.std.proofs.lemmas.Bool.Decides.{nat_tests}

second_of : (t u : Bool) → (t ≡ true → u ≡ true) → (t && u) ≡ t
second_of x0 u f = grind (arith, nat_tests)

-- names of those that pass a test of names
names_left : (p : Name → Bool) (n : Name) (es : List Named) → list_any (same_name n) (map (λ e. e.name) (filter (λ e. p e.name) es)) ≡ (p n && list_any (same_name n) (map (λ e. e.name) es))
names_left p n [] = grind (arith, nat_tests)
names_left p n (e ∷ es) = grind (arith, nat_tests, names_left p n es, from_name n e.name)

left_once : (p : Name → Bool) (es : List Named) → has_repeat same_name (map (λ e. e.name) es) ≡ false → has_repeat same_name (map (λ e. e.name) (filter (λ e. p e.name) es)) ≡ false
left_once p [] h = refl
left_once p (e ∷ es) h = grind (arith, nat_tests, left_once p es, names_left p e.name es)

distinct_once : (names : List Name) → IsDistinct same_name names → has_repeat same_name names ≡ false
unfolding IsDistinct
distinct_once [] d = refl
distinct_once (x ∷ names) d = no_or _ _ (nowhere names d.0) (distinct_once names d.1)
  where
    no_or : (a b : Bool) → a ≡ false → b ≡ false → (a || b) ≡ false
    no_or a b p q = rw (p, q)

    nowhere : (names : List Name) → AllByRecursion (λ y. same_name x y ≡ false) names → list_any (same_name x) names ≡ false
    nowhere [] all = refl
    nowhere (y ∷ names) all = no_or _ _ all.0 (nowhere names all.1)

-- Where the same surface is

any_at : (x : SurfaceId) (es : List (Name × Kept)) → list_any (same_surface x) (map (λ t. t.id) (all_in es)) ≡ true → (i : ℕ) × (e : Name × Kept) × (slice_get es i ≡ Some e) × (same_surface x e.1.id ≡ true)
any_at x [] h = absurd (cc)
any_at x (e ∷ es) h =
    elim (from_or (same_surface x e.1.id) _ h) [
      | inl q ↦ (zero, e, refl, q)
      | inr q ↦ let rest = any_at x es q in (suc rest.0, rest.1, rest.2, rest.3)
    ]

value_any : (x : SurfaceId) (es : List (Name × Kept)) (n : Name) (k : Kept) → lookup (same_name n) es ≡ Some k → same_surface x k.id ≡ true → list_any (same_surface x) (map (λ t. t.id) (all_in es)) ≡ true
value_any x [] n k h is = absurd (cc)
value_any x (e ∷ es) n k h is = grind (arith, nat_tests, left_or, right_or (same_surface x e.1.id), value_any x es n k)

module _ (surface : Name → Option SurfaceId) (numbers : ℕ → Option Numbers) (given : ℕ) (x : SurfaceId) where
  any_lasting : (es : List Named) → AllByRecursion (IsGiven surface numbers given) es → (n : Name) (d : SurfaceId) → surface n ≡ Some d → list_any (same_name n) (map (λ e. e.name) es) ≡ true → same_surface x d ≡ true
      → list_any (same_surface x) (map (λ t. t.id) (lasting_in surface es)) ≡ true
  unfolding lasting_in
  any_lasting [] every n d there h is = absurd (cc)
  any_lasting (e ∷ es) every n d there h is = grind (arith, nat_tests, any_lasting es every.1 n d there, left_or, right_or (same_surface x e.id), from_name n e.name)

  lasting_any : (es : List Named) → AllByRecursion (IsGiven surface numbers given) es → list_any (same_surface x) (map (λ t. t.id) (lasting_in surface es)) ≡ true → (n : Name) × (d : SurfaceId) × (surface n ≡ Some d) × (same_surface x d ≡ true)
  unfolding lasting_in
  lasting_any [] every h = absurd (cc)
  lasting_any (e ∷ es) every h = by_right every.0.right (lasting_any es every.1)
    where
      by_right : ((surface e.name ≡ None) ⊎ (surface e.name ≡ Some e.id))
          → (list_any (same_surface x) (map (λ t. t.id) (map temporary_of (filter (λ e. is_some (surface e.name)) es))) ≡ true → (n : Name) × (d : SurfaceId) × (surface n ≡ Some d) × (same_surface x d ≡ true))
          → (n : Name) × (d : SurfaceId) × (surface n ≡ Some d) × (same_surface x d ≡ true)
      by_right (inl f) rest =
          rest (sym (ap (λ t. list_any (same_surface x) (map (λ t. t.id) (map temporary_of (cond t (e ∷ filter (λ e. is_some (surface e.name)) es) (filter (λ e. is_some (surface e.name)) es))))) (ap is_some f)) ∙ h)
      by_right (inr f) rest =
          elim (from_or (same_surface x e.id) _ (sym (ap (λ t. list_any (same_surface x) (map (λ t. t.id) (map temporary_of (cond t (e ∷ filter (λ e. is_some (surface e.name)) es) (filter (λ e. is_some (surface e.name)) es))))) (ap is_some f)) ∙ h)) [
            | inl q ↦ (e.name, e.id, f, q)
            | inr q ↦ rest q
          ]

module _ (s : Seats) (numbers : ℕ → Option Numbers) (given : ℕ) (ever : List Named) (kept : IsKept (surface_in s) numbers given ever) (distinct : IsDistinct same_name (keys_of s.kept.entries)) where
  abbrev there : List Named
  there = filter (λ e. is_some (surface_in s e.name)) ever

  -- those are there that the map has
  has_there : (n : Name) → list_any (same_name n) (map (λ e. e.name) there) ≡ list_any (same_name n) (keys_of s.kept.entries)
  has_there n =
      names_left (λ n. is_some (surface_in s n)) n ever ∙ second_of (is_some (surface_in s n)) _ (kept.known n)
      ∙ mapped (kept_in s n) ∙ is_some-lookup (same_name n) s.kept.entries
    where
      mapped : (o : Option Kept) → is_some (option_map (λ (k : Kept). k.id) o) ≡ is_some o
      mapped None = refl
      mapped (Some k) = refl

  pub same_length : length s.kept.entries ≡ length (lasting_in (surface_in s) ever)
  unfolding lasting_in
  same_length =
      let few = fits same_name from_name self_name (map (λ e. e.name) there) (keys_of s.kept.entries) (left_once (λ n. is_some (surface_in s n)) ever kept.once) (λ n h. sym (has_there n) ∙ h) in
      let many = fits same_name from_name self_name (keys_of s.kept.entries) (map (λ e. e.name) there) (distinct_once (keys_of s.kept.entries) distinct) (λ n h. has_there n ∙ h) in
      omega (arith, few, many, length-keys_of s.kept.entries, length_map (λ (e : Named). e.name) there, length_map temporary_of there)

  -- and they are the same surfaces
  pub same_ids : (x : SurfaceId) → list_any (same_surface x) (map (λ t. t.id) (all_in s.kept.entries)) ≡ list_any (same_surface x) (map (λ t. t.id) (lasting_in (surface_in s) ever))
  same_ids x = both_ways _ _ to from
    where
      to : list_any (same_surface x) (map (λ t. t.id) (all_in s.kept.entries)) ≡ true → list_any (same_surface x) (map (λ t. t.id) (lasting_in (surface_in s) ever)) ≡ true
      to h =
          let found = any_at x s.kept.entries h in
          let has : surface_in s found.1.0 ≡ Some found.1.1.id = ap (option_map (λ (k : Kept). k.id)) (lookup_from_place name_laws s.kept.entries found.0 found.1.0 found.1.1 distinct found.2) in
          any_lasting (surface_in s) numbers given x ever kept.each found.1.0 found.1.1.id has (kept.known found.1.0 (ap is_some has)) found.3

      from : list_any (same_surface x) (map (λ t. t.id) (lasting_in (surface_in s) ever)) ≡ true → list_any (same_surface x) (map (λ t. t.id) (all_in s.kept.entries)) ≡ true
      from h =
          let found = lasting_any (surface_in s) numbers given x ever kept.each h in
          let k = kept_of (kept_in s found.0) found.1 found.2 in
          value_any x s.kept.entries found.0 k.0 k.1 (ap (same_surface x) k.2 ∙ found.3)
