-- Surfaces are found by the keys of their ids, over the changes of a table.
use Rattle.std.proofs.Common.{arith, ◌≡◌, ◌≢◌, ℕ, Bool, true, false, Option, Some, None, IsSome, is_some, refl, ap, sym, ◌∙◌, cond, subst}
use Rattle.std.proofs.lemmas.Bool.Decides.{nat_tests}
use Rattle.std.specs.Option.{option_map, option_and_then}
use Rattle.std.specs.Map.{lookup}
use Rattle.std.proofs.lemmas.Bool.{both_ways}
use Rattle.slab.specs.Slab.{with_value, Updates}
use Rattle.slab.proofs.SlabLemmas.{Updates-with_value}
use Rattle.vz_ids.specs.declared.SurfaceId.{SurfaceId}
use Rattle.vz_ids.specs.Ids.{same_surface}
use Rattle.vz_rules.proofs.Reached.{from_same, self_same}
use Rattle.vz_surfaces.specs.declared.table.Surface.{Surface}
use Rattle.vz_surfaces.specs.declared.table.Table.{Table}
use Rattle.vz_surfaces.specs.Memory.{is_key, key_at, under, look, IsKeyed, HasSame}
use Rattle.vz_surfaces.proofs.Keyed.{keys}

-- the test of keys is that of ids
pub tested : (a b : SurfaceId) → is_key a b ≡ same_surface a b
tested a b = ap (λ f. f a b) keys

pub same_id : (a b : SurfaceId) → is_key a b ≡ true → a ≡ b
same_id a b e = from_same a b (sym (tested a b) ∙ e)

pub key_from : (a b : SurfaceId) → a ≡ b → is_key a b ≡ true
key_from a b e = subst (λ x. is_key a x ≡ true) e (tested a a ∙ self_same a)

some_key : {a b : ℕ} → Some a ≡ Some b → a ≡ b
some_key e = cc

none_some : {A : Type 0} {a : A} → ◌≡◌ {A = Option A} None (Some a) → ⊥
none_some e = absurd (cc)

-- Tables with the same

pub keys_same : (t0 t1 : Table) → HasSame t0 t1 → (q : SurfaceId) → key_at t1 q ≡ key_at t0 q
keys_same t0 t1 h q = ap (lookup (is_key q)) h.keys

pub looks_same : (t0 t1 : Table) → HasSame t0 t1 → (q : SurfaceId) → look t1 q ≡ look t0 q
looks_same t0 t1 h q = grind (arith, nat_tests, keys_same t0 t1 h q)

pub same_keyed : (t0 t1 : Table) → HasSame t0 t1 → IsKeyed t0 → IsKeyed t1
same_keyed t0 t1 h keyed = grind (arith, nat_tests, keys_same)

module _ (t0 t1 : Table) (h : IsKeyed t0) where
  -- a key that an id has is not a vacant one
  taken : (q : SurfaceId) (k key : ℕ) → key_at t0 q ≡ Some k → under t0 key ≡ None → k ≢ key
  taken q k key e none same = absurd (both_ways (is_some (under t0 key)) (ap is_some none) (subst (λ n. IsSome (under t0 n)) same (h.there q k e)))

  -- nor that of another id
  other : (id q : SurfaceId) (k key : ℕ) → key_at t0 id ≡ Some key → is_key id q ≡ false → key_at t0 q ≡ Some k → k ≢ key
  other id q k key e apart f same = absurd (both_ways (is_key id q) apart (h.apart id q key e (f ∙ ap (λ n. Some n) same)))

  -- A surface more

  module _ (id : SurfaceId) (key : ℕ) (s : Surface) (vacant : under t0 key ≡ None) (slots : Updates t0.surfaces t1.surfaces key (Some s))
      (put : (q : SurfaceId) → key_at t1 q ≡ cond (is_key id q) (Some key) (key_at t0 q)) where
    pub put_look : (q : SurfaceId) → look t1 q ≡ cond (is_key id q) (Some s) (look t0 q)
    put_look q = grind (arith, nat_tests, taken q)

    pub put_keyed : IsKeyed t1
    put_keyed =
        record {
          there = λ q k e. there q k (is_key id q) (sym (put q) ∙ e);
          apart = λ a b k e f. apart a b k (is_key id a) refl (is_key id b) refl (sym (put a) ∙ e) (sym (put b) ∙ f);
        }
      where
        there : (q : SurfaceId) (k : ℕ) (b : Bool) → cond b (Some key) (key_at t0 q) ≡ Some k → IsSome (under t1 k)
        there q k true e = subst (λ n. IsSome (under t1 n)) (some_key e) (ap is_some slots.changed)
        there q k false e = ap is_some (slots.others k (taken q k key e vacant)) ∙ h.there q k e

        apart : (a b : SurfaceId) (k : ℕ) (x : Bool) → is_key id a ≡ x → (y : Bool) → is_key id b ≡ y → cond x (Some key) (key_at t0 a) ≡ Some k → cond y (Some key) (key_at t0 b) ≡ Some k → is_key a b ≡ true
        apart a b k true p true q e f = key_from a b (sym (same_id id a p) ∙ same_id id b q)
        apart a b k true p false q e f = absurd (taken b k key f vacant (sym (some_key e)))
        apart a b k false p true q e f = absurd (taken a k key e vacant (sym (some_key f)))
        apart a b k false p false q e f = h.apart a b k e f

  -- A surface changes

  module _ (id : SurfaceId) (key : ℕ) (f : Surface → Surface) (at : key_at t0 id ≡ Some key) (slots : Updates t0.surfaces t1.surfaces key (option_map f (under t0 key)))
      (stay : t1.keys.entries ≡ t0.keys.entries) where
    same : (q : SurfaceId) → key_at t1 q ≡ key_at t0 q
    same q = ap (lookup (is_key q)) stay

    pub change_look : (q : SurfaceId) → look t1 q ≡ cond (is_key id q) (option_map f (look t0 q)) (look t0 q)
    change_look q = grind (arith, nat_tests, same q, some_key, same_id id q, other id q)

  -- A surface goes

  module _ (id : SurfaceId) (key : ℕ) (at : key_at t0 id ≡ Some key) (slots : Updates t0.surfaces t1.surfaces key None)
      (goes : (q : SurfaceId) → key_at t1 q ≡ cond (is_key id q) None (key_at t0 q)) where
    pub go_look : (q : SurfaceId) → look t1 q ≡ cond (is_key id q) None (look t0 q)
    go_look q = grind (arith, nat_tests, other id q)

    pub go_keyed : IsKeyed t1
    go_keyed =
        record {
          there = λ q k e. by q k (is_key id q) refl (sym (goes q) ∙ e);
          apart = λ a b k e g. h.apart a b k (stays a k (is_key id a) (sym (goes a) ∙ e)) (stays b k (is_key id b) (sym (goes b) ∙ g));
        }
      where
        stays : (q : SurfaceId) (k : ℕ) (b : Bool) → ◌≡◌ {A = Option ℕ} (cond b None (key_at t0 q)) (Some k) → key_at t0 q ≡ Some k
        stays q k true e = absurd (none_some e)
        stays q k false e = e

        by : (q : SurfaceId) (k : ℕ) (b : Bool) → is_key id q ≡ b → ◌≡◌ {A = Option ℕ} (cond b None (key_at t0 q)) (Some k) → IsSome (under t1 k)
        by q k true p e = absurd (none_some e)
        by q k false p e = ap is_some (slots.others k (other id q k key at p e)) ∙ h.there q k e

-- a value written under a key is the one there, changed
pub written : (t : Table) (key : ℕ) (old new : Surface) (f : Surface → Surface) → Some old ≡ under t key → new ≡ f old → Updates t.surfaces (with_value t.surfaces key new) key (option_map f (under t key))
written t key old new f was is =
    subst (λ o. Updates t.surfaces (with_value t.surfaces key new) key (option_map f o)) was
    (subst (λ s. Updates t.surfaces (with_value t.surfaces key new) key (Some s)) is (Updates-with_value t.surfaces key new (subst IsSome was refl)))

-- an id without a surface has no key
pub no_key : (t : Table) → IsKeyed t → (id : SurfaceId) → look t id ≡ None → key_at t id ≡ None
no_key t h id none = by (key_at t id) refl none
  where
    by : (o : Option ℕ) → key_at t id ≡ o → option_and_then (under t) o ≡ None → o ≡ None
    by None e f = refl
    by (Some k) e f = absurd (both_ways (is_some (under t k)) (ap is_some f) (h.there id k e))

-- under the key of an id there is a surface
pub stands_under : (t : Table) → IsKeyed t → (id : SurfaceId) (key : ℕ) → key_at t id ≡ Some key → None ≡ under t key → ⊥
stands_under t h id key e none = absurd (both_ways (is_some (under t key)) (ap is_some (sym none)) (h.there id key e))

-- the surface of an id is that under its key
pub under_is : (t : Table) (id : SurfaceId) (key : ℕ) → key_at t id ≡ Some key → look t id ≡ under t key
under_is t id key e = ap (option_and_then (under t)) e
