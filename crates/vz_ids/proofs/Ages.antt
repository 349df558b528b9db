-- Which surfaces of a group are others or newer ones: an order.
use Rattle.std.proofs.Common.{◌≡◌, ℕ, ◌+◌, ◌≤◌, ◌<◌, Bool, true, false, ◌&&◌, ◌||◌, ◌==◌, nat_lt, nat_le, refl, ap, ◌∙◌, arith, ◌⊎◌, inl, inr}
use Rattle.std.proofs.lemmas.Bool.Decides.{nat_tests}
use Rattle.vz_ids.specs.declared.SurfaceId.{SurfaceId}
use Rattle.vz_ids.specs.declared.LocalSurfaceId.{LocalSurfaceId}
use Rattle.vz_ids.specs.Ids.{same_sink, same_surface, newer, at_least}

-- what at least says of the numbers
pub record IsAtLeast (a b : SurfaceId) : Type 0 where
  pub client : a.sink.client_id ≡ b.sink.client_id
  pub sink : a.sink.sink_id ≡ b.sink.sink_id
  pub token : a.local.token.0 ≡ b.local.token.0
  pub parent : b.local.parent ≤ a.local.parent
  pub child : b.local.child ≤ a.local.child

pub both : (s t : Bool) → (s && t) ≡ true → (s ≡ true) × (t ≡ true)
both true true e = (refl, refl)
both true false e = (refl, e)
both false t e = absurd (cc)

pub either : (s t : Bool) → (s || t) ≡ true → (s ≡ true) ⊎ (t ≡ true)
either true t e = inl refl
either false t e = inr e

le_is : (a b : ℕ) → nat_le a b ≡ true → a ≤ b
le_is a b e = grind (arith, nat_tests)

lt_is : (a b : ℕ) → nat_lt a b ≡ true → a < b
lt_is a b e = grind (arith, nat_tests)

pub eq_is : (a b : ℕ) → (a == b) ≡ true → a ≡ b
eq_is a b e = grind (arith, nat_tests)

le_so : (a b : ℕ) → a ≤ b → nat_le a b ≡ true
le_so a b h = grind (arith, nat_tests)

pub eq_so : (a b : ℕ) → a ≡ b → (a == b) ≡ true
eq_so a b h = grind (arith, nat_tests)

pub at_least_is : (a b : SurfaceId) → at_least a b ≡ true → IsAtLeast a b
at_least_is a b e = by (either (same_surface a b) (same_sink a.sink b.sink && newer a.local b.local) e)
  where
    by : (same_surface a b ≡ true) ⊎ ((same_sink a.sink b.sink && newer a.local b.local) ≡ true) → IsAtLeast a b
    by (inl s) =
        let x = both _ _ s in
        let y = both _ _ x.0 in
        let z = both _ _ x.1 in
        let u = both _ _ z.0 in
        let p = eq_is a.local.parent b.local.parent u.0 in
        let c = eq_is a.local.child b.local.child u.1 in
        record { client = eq_is _ _ y.0; sink = eq_is _ _ y.1; token = eq_is _ _ z.1; parent = omega arith; child = omega arith }
    by (inr s) =
        let x = both _ _ s in
        let y = both _ _ x.0 in
        let z = both _ _ x.1 in
        let u = both _ _ z.1 in
        let v = both _ _ u.0 in
        record { client = eq_is _ _ y.0; sink = eq_is _ _ y.1; token = eq_is _ _ z.0; parent = le_is _ _ v.0; child = le_is _ _ v.1 }

order_tests : (a b : ℕ) → b ≤ a → ((a == b) ≡ true) ⊎ (nat_lt b a ≡ true)
order_tests a b h = grind (arith, nat_tests)

joined : (sink token p c pl cl pe ce : Bool) → sink ≡ true → token ≡ true → p ≡ true → c ≡ true → (pe ≡ true) ⊎ (pl ≡ true) → (ce ≡ true) ⊎ (cl ≡ true)
    → ((sink && (pe && ce && token)) || (sink && (token && (p && c && (pl || cl))))) ≡ true
joined true true true true pl cl pe ce a b c d (inl e) (inl f) = grind arith
joined true true true true pl cl pe ce a b c d (inr e) f = grind arith
joined true true true true pl cl pe ce a b c d (inl e) (inr f) = grind arith
joined false token p c pl cl pe ce a b d e f g = absurd (cc)
joined true false p c pl cl pe ce a b d e f g = absurd (cc)
joined true true false c pl cl pe ce a b d e f g = absurd (cc)
joined true true true false pl cl pe ce a b d e f g = absurd (cc)

pub at_least_so : (a b : SurfaceId) → IsAtLeast a b → at_least a b ≡ true
at_least_so a b h =
    let same : same_sink a.sink b.sink ≡ true = ap (λ t. t && (a.sink.sink_id == b.sink.sink_id)) (eq_so _ _ h.client) ∙ eq_so _ _ h.sink in
    joined _ _ _ _ _ _ _ _ same (eq_so _ _ h.token) (le_so _ _ h.parent) (le_so _ _ h.child) (order_tests _ _ h.parent) (order_tests _ _ h.child)

-- what newer says of the numbers
pub record IsNewer (a b : LocalSurfaceId) : Type 0 where
  pub token : a.token.0 ≡ b.token.0
  pub parent : b.parent ≤ a.parent
  pub child : b.child ≤ a.child
  pub more : b.parent + b.child < a.parent + a.child

more_of : (p q r s : ℕ) → q ≤ p → s ≤ r → (nat_lt q p || nat_lt s r) ≡ true → q + s < p + r
more_of p q r s h k e = grind (arith, nat_tests)

pub newer_is : (a b : LocalSurfaceId) → newer a b ≡ true → IsNewer a b
newer_is a b e =
    let x = both _ _ e in
    let y = both _ _ x.1 in
    let z = both _ _ y.0 in
    let parent = le_is _ _ z.0 in
    let child = le_is _ _ z.1 in
    record { token = eq_is _ _ x.0; parent = parent; child = child; more = more_of _ _ _ _ parent child y.1 }

pub newer_so : (a b : LocalSurfaceId) → a.token.0 ≡ b.token.0 → b.parent ≤ a.parent → b.child ≤ a.child → b.parent + b.child < a.parent + a.child → newer a b ≡ true
newer_so a b e h k m =
    four _ _ _ _ (eq_so _ _ e) (le_so _ _ h) (le_so _ _ k) (less_of a.parent b.parent a.child b.child h k m)
  where
    four : (s t u v : Bool) → s ≡ true → t ≡ true → u ≡ true → v ≡ true → (s && (t && u && v)) ≡ true
    four true true true v e f g h = h
    four true true false v e f g h = absurd (cc)
    four true false u v e f g h = absurd (cc)
    four false t u v e f g h = absurd (cc)

    less_of : (p q r s : ℕ) → q ≤ p → s ≤ r → q + s < p + r → (nat_lt q p || nat_lt s r) ≡ true
    less_of p q r s h k m = grind (arith, nat_tests)

-- none is newer than one that is at least it
pub newer_once : (a b : SurfaceId) → at_least a b ≡ true → newer b.local a.local ≡ false
newer_once a b e = by (newer b.local a.local) refl
  where
    by : (t : Bool) → newer b.local a.local ≡ t → t ≡ false
    by false f = refl
    by true f = let x = at_least_is a b e in let y = newer_is b.local a.local f in let p = x.parent in let c = x.child in let m = y.more in absurd (omega arith)

pub at_least_trans : (a b c : SurfaceId) → at_least a b ≡ true → at_least b c ≡ true → at_least a c ≡ true
at_least_trans a b c e f =
    let x = at_least_is a b e in
    let y = at_least_is b c f in
    at_least_so a c (record { client = x.client ∙ y.client; sink = x.sink ∙ y.sink; token = x.token ∙ y.token; parent = omega arith; child = omega arith })
