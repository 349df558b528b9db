-- How one more operation changes the nesting of groups.
use Rattle.std.specs.Prelude.{◌≡◌, ◌≤◌, max, List, ◌∷◌}
use Rattle.vz_flat.specs.declared.op.Op.{Op}
use Rattle.vz_flat.specs.declared.nesting.Nesting.{Nesting}
use Rattle.vz_flat.specs.Ops.{is_whole_from, deepest}

-- whatever follows: a list that begins with the operation is whole exactly if the rest is whole
-- with the groups that are open afterwards, and both have the same greatest number of open groups
pub record NestsOn (before : Nesting) (op : Op) (after : Nesting) : Type 0 where
  pub whole : (rest : List Op) → is_whole_from before.now_open (op ∷ rest) ≡ is_whole_from after.now_open rest
  pub most : (rest : List Op) → max before.deepest (deepest before.now_open (op ∷ rest)) ≡ max after.deepest (deepest after.now_open rest)
  pub ordered : after.now_open ≤ after.deepest
