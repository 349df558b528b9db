-- The tests for the same surface, the same place among ranges, the same group and the same place in it.
use Rattle.std.proofs.Common.{◌≡◌, ℕ, Bool, true, false, ◌==◌, ◌&&◌, ap, ◌∙◌, arith}
use Rattle.std.proofs.lemmas.Bool.Decides.{nat_tests}
use Rattle.vz_ids.specs.declared.SurfaceId.{SurfaceId}
use Rattle.vz_ids.specs.Ids.{same_surface, same_sink, group_of}
use Rattle.vz_rules.specs.Reach.{names}
use Rattle.vz_ids.specs.declared.SurfaceRange.{SurfaceRange}
use Rattle.vz_ids.specs.declared.GroupKey.{GroupKey}
use Rattle.vz_refs.specs.declared.sets.Nth.{Nth}
use Rattle.vz_refs.specs.declared.sets.Place.{Place}
use Rattle.vz_refs.specs.Indexing.{same_nth, same_key, same_place}
use Rattle.vz_rules.proofs.Marking.{same_flip}
use Rattle.vz_rules.proofs.Reached.{from_same, self_same}
pub use Rattle.std.proofs.lemmas.Bool.{and_parts as both, and_from as two_true, eqb-true as from_eqb}

pub second_not : (a b : Bool) → (a && b) ≡ false → a ≡ true → b ≡ false
second_not x0 b h e = grind (arith, nat_tests)

pub eqb_self : (a : ℕ) → (a == a) ≡ true
eqb_self a = grind (arith, nat_tests)

pub flip : (a b : SurfaceId) → same_surface a b ≡ same_surface b a
flip a b = same_flip same_surface from_same self_same a b

-- a surface is another than one that is the same as a third
pub apart : (a b c : SurfaceId) → same_surface a b ≡ true → same_surface b c ≡ false → same_surface a c ≡ false
apart a b c e f = ap (λ z. same_surface z c) (from_same a b e) ∙ f

pub together : (a b c : SurfaceId) → same_surface a b ≡ true → same_surface b c ≡ true → same_surface a c ≡ true
together a b c e f = ap (λ z. same_surface z c) (from_same a b e) ∙ f

-- The other keys

pub from_nth : (a b : Nth) → same_nth a b ≡ true → a ≡ b
from_nth a b h = grind (arith, nat_tests, both (same_surface a.of b.of), from_same a.of b.of, from_eqb a.nth b.nth)

pub self_nth : (a : Nth) → same_nth a a ≡ true
self_nth a = two_true _ _ (self_same a.of) (eqb_self a.nth)

pub from_key : (a b : GroupKey) → same_key a b ≡ true → a ≡ b
from_key a b h = grind (arith, nat_tests, both (same_sink a.sink b.sink), both, from_eqb)

pub self_key : (a : GroupKey) → same_key a a ≡ true
self_key a = two_true _ _ (two_true _ _ (eqb_self a.sink.client_id) (eqb_self a.sink.sink_id)) (eqb_self a.token.0)

pub from_place : (a b : Place) → same_place a b ≡ true → a ≡ b
from_place a b h = grind (arith, nat_tests, both (same_key a.group b.group), from_key a.group b.group, from_eqb a.at b.at)

pub self_place : (a : Place) → same_place a a ≡ true
self_place a = two_true _ _ (self_key a.group) (eqb_self a.at)

-- a range names surfaces of the group of its end alone
pub named_group : (id : SurfaceId) (range : SurfaceRange) → names id range ≡ true → group_of range.end ≡ group_of id
named_group id range h = grind (arith, nat_tests, from_same, both, from_key, two_true)
