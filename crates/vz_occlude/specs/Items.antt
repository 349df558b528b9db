-- The items of a list of operations: its Fills, its Blits, and each group as one.
use Rattle.std.specs.Prelude.{ℕ, ℤ, List, [], ◌∷◌, ◌++◌}
use Rattle.vz_geom.specs.Rectangle.{Rectangle}
use Rattle.vz_pixels.specs.Colour.{Colour}
use Rattle.vz_pixels.specs.Block.{Block}
use Rattle.vz_frame.specs.declared.blend.Blend.{Blend}
use Rattle.vz_flat.specs.declared.op.Op.{Op}
use Rattle.vz_flat.specs.declared.op.Op.TheVariants.{Fill, Blit, Push, Pop}

-- the items of a list, back to front: none, or one and the later ones, where a group has a list of its own
pub data Items : Type 0 where
  Done : Items
  Filled : Rectangle → Colour → ℕ → Blend → Items → Items
  Blitted : Rectangle → Block → ℤ → ℤ → ℕ → Blend → Items → Items
  Grouped : Rectangle → ℕ → Blend → Items → Items → Items

-- the operations of items: a group is its Push, what it has, and its Pop
unfoldable pub ops_of : Items → List Op
ops_of Done = []
ops_of (Filled area c o m later) = Fill area c o m ∷ ops_of later
ops_of (Blitted area block tx ty o m later) = Blit area block tx ty o m ∷ ops_of later
ops_of (Grouped area o m inner later) = Push area o m ∷ (ops_of inner ++ (Pop ∷ ops_of later))

-- an item before those of the innermost list
abbrev pub put_first : (Items → Items) → List Items → List Items
put_first item [] = []
put_first item (later ∷ outer) = item later ∷ outer

-- the innermost list as a group before those of the next one
abbrev pub put_group : Rectangle → ℕ → Blend → List Items → List Items
put_group area o m [] = []
put_group area o m (inner ∷ []) = []
put_group area o m (inner ∷ later ∷ outer) = Grouped area o m inner later ∷ outer

-- the items of operations that begin in open groups: a list up to the Pop of the innermost one, a list from there
-- up to the next one's, and so on, and a list behind all of them
unfoldable pub levels : List Op → List Items
levels [] = Done ∷ []
levels (Fill area c o m ∷ ops) = put_first (Filled area c o m) (levels ops)
levels (Blit area block tx ty o m ∷ ops) = put_first (Blitted area block tx ty o m) (levels ops)
levels (Push area o m ∷ ops) = put_group area o m (levels ops)
levels (Pop ∷ ops) = Done ∷ levels ops

-- the first of several lists of items
abbrev pub innermost : List Items → Items
innermost [] = Done
innermost (items ∷ outer) = items

-- the items of whole operations
unfoldable pub items_of : List Op → Items
items_of ops = innermost (levels ops)
