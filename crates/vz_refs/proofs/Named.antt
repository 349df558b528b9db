-- Names of temporary surfaces, and which of them end.
use Rattle.std.proofs.Common.{min, ◌≡◌, ℕ, ◌≤◌, Bool, true, Option, Some, None, refl, ap, sym, subst, inl, inr, ◌∙◌, arith, cond}
use Rattle.std.specs.Option.{option_map}
use Rattle.std.specs.Cmp.{IsEquivalence}
use Rattle.std.proofs.Math.Nat.{min-le_left, min-le_right, min-eq_left, min-eq_right}
use Rattle.vz_ids.specs.declared.SurfaceId.{SurfaceId}
use Rattle.vz_refs.specs.declared.sets.Place.{Place}
use Rattle.vz_refs.specs.declared.seats.Name.{Name}
use Rattle.vz_refs.specs.declared.seats.Kept.{Kept}
use Rattle.vz_refs.specs.declared.seats.Seats.{Seats}
use Rattle.std.specs.Map.{lookup}
use Rattle.vz_refs.specs.Seated.{IsSeated}
use Rattle.vz_refs.specs.Indexing.{or_zero, same_key, same_place}
use Rattle.vz_refs.specs.Lasting.{same_name, seat_of, kept_in, size_in, surface_in, name_in, room_in, Stands, IsEnded, Ends}
use Rattle.vz_rules.proofs.Marking.{same_flip}
use Rattle.vz_refs.proofs.Same.{both, two_true, from_eqb, eqb_self}
use Rattle.std.proofs.lemmas.Bool.Decides.{nat_tests}

pub from_name : (a b : Name) → same_name a b ≡ true → a ≡ b
from_name a b h = grind (arith, nat_tests, both, from_eqb a.until b.until, from_eqb a.number b.number)

pub self_name : (a : Name) → same_name a a ≡ true
self_name a = two_true _ _ (eqb_self a.until) (eqb_self a.number)

-- the test for the same name is an equivalence
pub name_laws : IsEquivalence same_name
name_laws = grind (arith, nat_tests, self_name, same_flip, from_name)

-- the least of several is no less where each is no less
pub least_mono : (a b x y : ℕ) → a ≤ x → b ≤ y → min a b ≤ min x y
least_mono a b x y p q = grind (arith, nat_tests, min-le_left a b, min-le_right a b, min-eq_left, min-eq_right)

-- the surface of what is kept
pub kept_of : (o : Option Kept) (d : SurfaceId) → option_map (λ (k : Kept). k.id) o ≡ Some d → (k : Kept) × (o ≡ Some k) × (k.id ≡ d)
kept_of None d e = absurd (cc)
kept_of (Some k) d e = (k, refl, (let is : k.id ≡ d = cc in is))

-- Changes one after the other

pub ends_none : (over : Name → SurfaceId → Bool) (a : Seats) → Stands a → Ends over a a
ends_none over a stands = grind (arith, nat_tests)

pub ends_both : (over : Name → SurfaceId → Bool) (a b c : Seats) → Ends over a b → Ends over b c → Ends over a c
ends_both over a b c p q = grind (arith, nat_tests)

-- one goes that is to end
pub ends_one : (over : Name → SurfaceId → Bool) (a b : Seats) (x : Name) → Stands b → ((n : Name) → surface_in b n ≡ cond (same_name x n) None (surface_in a n))
    → ((p : Place) (n : Name) → name_in b p ≡ Some n → (j : ℕ) × (p.at ≤ j) × (name_in a (record p { at = j }) ≡ Some n)) → room_in a ≤ room_in b
    → ((d : SurfaceId) → surface_in a x ≡ Some d → over x d ≡ true) → Ends over a b
ends_one over a b x stands is names room to_end = grind (arith, nat_tests, from_name x)

-- one that is there was there
pub was_there : (over : Name → SurfaceId → Bool) (a b : Seats) → Ends over a b → (n : Name) (d : SurfaceId) → surface_in b n ≡ Some d → surface_in a n ≡ Some d
was_there over a b ends n d h = by_old (surface_in a n) refl
  where
    some_inj : (x y : SurfaceId) → Some x ≡ Some y → x ≡ y
    some_inj x y e = cc

    by_ended : (x : SurfaceId) → IsEnded (over n x) (Some x) (surface_in b n) → Some x ≡ Some d
    by_ended x (inl e) = sym e ∙ h
    by_ended x (inr e) = let no_way : None ≡ Some d = sym e.1 ∙ h in absurd (cc)

    by_old : (o : Option SurfaceId) → surface_in a n ≡ o → surface_in a n ≡ Some d
    by_old None e = let no_way : None ≡ Some d = sym (ends.no_more n e) ∙ h in absurd (cc)
    by_old (Some x) e = e ∙ by_ended x (ends.surfaces n x e)

-- the same entries stand the same
pub stands_same : (a b : Seats) → b.kept.entries ≡ a.kept.entries → b.names.entries ≡ a.names.entries → b.sizes.entries ≡ a.sizes.entries → Stands a → Stands b
stands_same a b kept names sizes stands =
    subst (λ es. IsSeated seat_of (kept_in b) (name_in b) (λ g. or_zero (lookup (same_key g) es))) (sym sizes)
    (subst (λ es. IsSeated seat_of (kept_in b) (λ p. lookup (same_place p) es) (size_in a)) (sym names)
    (subst (λ es. IsSeated seat_of (λ n. lookup (same_name n) es) (name_in a) (size_in a)) (sym kept) stands))

pub surface_same : (a b : Seats) → b.kept.entries ≡ a.kept.entries → (n : Name) → surface_in b n ≡ surface_in a n
surface_same a b kept n = ap (λ es. option_map (λ (k : Kept). k.id) (lookup (same_name n) es)) kept
