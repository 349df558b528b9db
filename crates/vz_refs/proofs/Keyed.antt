-- The derived tests of keys are those of the definitions.
use Rattle.std.proofs.Common.{◌≡◌, Bool, is_some, [], Option, Some, None, Result, Ok, OnOk, sym, ap, subst, ◌∙◌, cond, arith}
use Rattle.std.specs.Map.{lookup}
use Rattle.std.specs.Option.{option_map}
use Rattle.indexmap.specs.IndexMap.{IndexMap, get, Updates}
use Rattle.vz_ids.specs.Ids.{same_surface}
use Rattle.vz_ids.specs.contracts.SurfaceIdPartialEq.TheImpl.{eq-value as surface_eq}
use Rattle.vz_refs.specs.contracts.sets.NthPartialEq.TheImpl.{eq-value as nth_eq}
use Rattle.vz_ids.specs.contracts.GroupKeyPartialEq.TheImpl.{eq-value as group_eq}
use Rattle.vz_refs.specs.contracts.sets.PlacePartialEq.TheImpl.{eq-value as place_eq}
use Rattle.vz_refs.specs.Indexing.{same_nth, same_key, same_place}
use Rattle.std.proofs.lemmas.Bool.Decides.{nat_tests}

pub surfaces : surface_eq.it ≡ same_surface
surfaces = grind (arith, nat_tests)

pub nths : nth_eq.it ≡ same_nth
nths = grind (arith, nat_tests)

pub groups : group_eq.it ≡ same_key
groups = grind (arith, nat_tests)

pub places : place_eq.it ≡ same_place
places = grind (arith, nat_tests)

module _ {K X S : Type 0} (eq same : K → K → Bool) (is : eq ≡ same) where
  -- what a map has at a key
  pub at_key : (m : IndexMap K X S) (k : K) (o : Option X) → o ≡ get eq m k → get same m k ≡ o
  at_key m k o e = sym (e ∙ ap (λ t. get t m k) is)

  pub found : (m : IndexMap K X S) (k : K) (o : Option X) (x : X) → o ≡ get eq m k → o ≡ Some x → get same m k ≡ Some x
  found m k o x e f = at_key m k o e ∙ f

  -- and after a change at a key
  pub updated : (m n : IndexMap K X S) (k : K) (w : Option X) → Updates eq m n k w → (q : K) → get same n q ≡ cond (same k q) w (get same m q)
  updated m n k w u = subst (λ (e : K → K → Bool). (q : K) → get e n q ≡ cond (e k q) w (get e m q)) is u.0

  pub written : (m n : IndexMap K X S) (k : K) (v : X) → ((q : K) → get eq n q ≡ cond (eq k q) (option_map (λ _. v) (get eq m q)) (get eq m q)) → (q : K) → get same n q ≡ cond (same k q) (option_map (λ _. v) (get same m q)) (get same m q)
  written m n k v u = subst (λ (e : K → K → Bool). (q : K) → get e n q ≡ cond (e k q) (option_map (λ _. v) (get e m q)) (get e m q)) is u

-- a map with the same entries has the same at each key
pub unchanged : {K X S : Type 0} (same : K → K → Bool) (m n : IndexMap K X S) → n.entries ≡ m.entries → get same m ≡ get same n
unchanged same m n e = λ i q. lookup (same q) (sym e i)

pub nothing : {K X S : Type 0} (same : K → K → Bool) (m : IndexMap K X S) → m.entries ≡ [] → (q : K) → get same m q ≡ None
nothing same m e q = ap (lookup (same q)) e

pub of_ok : {T E : Type 0} (r : Result T E) (P : Type 0) (x : T) → r ≡ Ok x → OnOk r P → P
of_ok x0 x1 x e h = grind (arith, nat_tests)

-- what is lent is there
pub copied_some : {T : Type 0} (o : Option T) → {U : Type 0} (f : T → U) → is_some o ≡ is_some (option_map f o)
copied_some x0 f = grind (arith, nat_tests)
