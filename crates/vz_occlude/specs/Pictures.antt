-- The picture of a drawing as operations, before and after occluded items are removed.
use Rattle.std.specs.Prelude.{◌≡◌, ℕ, List, IsTrue}
use Rattle.vz_geom.specs.declared.Size.{Size}
use Rattle.vz_geom.specs.Rectangle.{Rectangle, Covers, sized}
use Rattle.vz_geom.specs.Display.{IsDisplaySize}
use Rattle.vz_pixels.specs.Colour.{black}
use Rattle.vz_machine.specs.Pictured.{Pictured}
use Rattle.vz_flat.specs.declared.op.Op.{Op}
use Rattle.vz_flat.specs.Ops.{value, is_whole}
use Rattle.vz_occlude.specs.Occlusion.{kept as kept_of, gone as gone_of}

-- the size of a display, the operations that are drawn on it, and the rectangle that changed
pub record Flattened : Type 0 where
  pub size : Size
  pub ops : List Op
  pub damage : Rectangle

-- the size is that of a display, and the changed rectangle is on it
pub record IsFlattened (p : Flattened) : Type 0 where
  pub sides : IsDisplaySize p.size
  pub inside : Covers (sized p.size) p.damage

-- the picture that the operations paint on opaque black
abbrev pub flat_picture : Flattened → Pictured
flat_picture p = record { size = p.size; colour = λ q. value p.ops q black; changed = p.damage }

-- how many of its items are occluded
abbrev pub occluded_in : Flattened → ℕ
occluded_in p = gone_of p.ops

-- the same with the operations that were kept of the whole ones, and how many items were removed
pub record Thinned : Type 0 where
  pub size : Size
  pub whole : List Op
  pub ops : List Op
  pub damage : Rectangle
  pub gone : ℕ

-- the size is that of a display, the changed rectangle is on it, and exactly the occluded items of the whole operations
-- were removed
pub record IsThinned (p : Thinned) : Type 0 where
  pub sides : IsDisplaySize p.size
  pub inside : Covers (sized p.size) p.damage
  pub nested : IsTrue (is_whole p.whole)
  pub kept : p.ops ≡ kept_of p.whole
  pub gone : p.gone ≡ gone_of p.whole

-- the picture that the kept operations paint on opaque black
abbrev pub thin_picture : Thinned → Pictured
thin_picture p = record { size = p.size; colour = λ q. value p.ops q black; changed = p.damage }
