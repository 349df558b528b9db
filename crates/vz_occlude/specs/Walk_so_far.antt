-- How far a walk over operations has come, from the last one to the first.
use Rattle.std.specs.Prelude.{◌≡◌, ℕ, ◌+◌, ◌-◌, ◌^◌, ◌<◌, ◌≤◌, true, Some, List, [], ◌∷◌, ◌++◌, take, drop, length, map, slice_get}
use Rattle.vz_geom.specs.Rectangle.{Rectangle}
use Rattle.vz_flat.specs.declared.op.Op.{Op}
use Rattle.vz_flat.specs.declared.op.Op.TheVariants.{Pop}
use Rattle.vz_flat.specs.Ops.{is_nested, is_inside}
use Rattle.vz_occlude.specs.declared.bound.TheConstants.{MOST_OCCLUDERS}
use Rattle.vz_occlude.specs.declared.culler.Level.{Level}
use Rattle.vz_occlude.specs.declared.culler.OcclusionCuller.{OcclusionCuller}
use Rattle.vz_occlude.specs.Items.{Items, ops_of, levels}
use Rattle.vz_occlude.specs.Occluders.{occluders_of}
use Rattle.vz_occlude.specs.Occlusion.{kept_items, gone_items}

-- the operations of several lists of items, with a Pop between each two
unfoldable pub ops_behind : List Items → List Op
ops_behind [] = []
ops_behind (items ∷ []) = ops_of items
ops_behind (items ∷ next ∷ outer) = ops_of items ++ (Pop ∷ ops_behind (next ∷ outer))

-- what is kept of each
abbrev pub kept_behind : List Items → List Op
kept_behind lists = ops_behind (map kept_items lists)

-- the last occluders of each, those of the outermost one first
unfoldable pub occluders_behind : List Items → List Rectangle
occluders_behind [] = []
occluders_behind (items ∷ outer) = occluders_behind outer ++ take MOST_OCCLUDERS (occluders_of items)

-- how many items of all of them are removed
unfoldable pub gone_behind : List Items → ℕ
gone_behind [] = 0
gone_behind (items ∷ outer) = gone_items items + gone_behind outer

-- how many occluders stand before those of the innermost one
abbrev pub start_of : List Items → ℕ
start_of [] = 0
start_of (items ∷ outer) = length (occluders_behind outer)

-- what is remembered of lists while a group before them is walked, in a vector of so many operations
abbrev pub level_of : ℕ → List Items → Level
level_of n lists = record { start = start_of lists; kept = n - length (kept_behind lists); removed = gone_behind lists }

-- what is remembered of all lists but the innermost one, of the outermost one first
unfoldable pub levels_behind : ℕ → List Items → List Level
levels_behind n [] = []
levels_behind n (items ∷ []) = []
levels_behind n (items ∷ next ∷ outer) = levels_behind n (next ∷ outer) ++ level_of n (next ∷ outer) ∷ []

-- the walk has taken the operations of these lists
pub record IsAt (lists : List Items) (culler : OcclusionCuller) : Type 0 where
  pub low : culler.kept ≤ length culler.ops.items
  pub kept : drop culler.kept culler.ops.items ≡ kept_behind lists
  pub occluders : culler.occluders.items ≡ occluders_behind lists
  pub start : culler.start ≡ start_of lists
  pub removed : culler.removed ≡ gone_behind lists
  pub behind : culler.behind.items ≡ levels_behind (length culler.ops.items) lists

-- if the operation is at this index, it went to the front of those that were kept; those before the index stay
pub record IsKeptAt (place : ℕ) (op : Op) (old new : OcclusionCuller) : Type 0 where
  pub low : new.kept ≤ length new.ops.items
  pub before : place ≤ new.kept
  pub kept : slice_get old.ops.items place ≡ Some op → drop new.kept new.ops.items ≡ op ∷ drop old.kept old.ops.items
  pub ahead : take place new.ops.items ≡ take place old.ops.items
  pub long : length new.ops.items ≡ length old.ops.items

-- the operation at this index stands before those that were taken, behind so many open groups
pub record Precedes (n : ℕ) (op : Op) (later : List Op) (place : ℕ) (culler : OcclusionCuller) : Type 0 where
  pub is : slice_get culler.ops.items place ≡ Some op
  pub before : place < culler.kept
  pub nested : is_nested n (op ∷ later) ≡ true
  pub inside : is_inside op ≡ true
  pub few : length later + 1 < 2 ^ 64
  pub stands : IsAt (levels later) culler

-- the walk has taken these lists, and the operations before this index stay
pub record HasTaken (place : ℕ) (lists : List Items) (old new : OcclusionCuller) : Type 0 where
  pub stands : IsAt lists new
  pub before : place ≤ new.kept
  pub ahead : take place new.ops.items ≡ take place old.ops.items
