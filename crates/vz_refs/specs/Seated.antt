-- How the elements of each group are kept, one after the other.
use Rattle.std.specs.Prelude.{◌≡◌, ℕ, ◌<◌, Option, Some, IsTrue, is_some}
use Rattle.vz_ids.specs.declared.GroupKey.{GroupKey}
use Rattle.vz_refs.specs.declared.sets.Place.{Place}

-- each element is at its place, and in each group exactly the places below its size are taken
pub record IsSeated {K E : Type 0} (place : E → Place) (kept : K → Option E) (at : Place → Option K) (size : GroupKey → ℕ) : Type 0 where
  pub placed : (x : K) (e : E) → kept x ≡ Some e → (at (place e) ≡ Some x) × ((place e).at < size (place e).group)
  pub held : (p : Place) (x : K) → at p ≡ Some x → (e : E) × (kept x ≡ Some e) × (place e ≡ p)
  pub filled : (p : Place) → p.at < size p.group → IsTrue (is_some (at p))
