-- The colour under an area that is painted.
use Rattle.std.specs.Prelude.{◌≡◌, ◌∷◌, List, true}
use Rattle.vz_geom.specs.declared.Point.{Point}
use Rattle.vz_geom.specs.Rectangle.{Rectangle, has}
use Rattle.vz_pixels.specs.Colour.{Colour, black}
use Rattle.vz_flat.specs.declared.op.Op.{Op}
use Rattle.vz_flat.specs.Ops.{value, is_whole, deepest}

-- the operation turns opaque black into this colour in all of a part of the display, and can be
-- left out without any effect on the nesting of groups
pub record IsGround (part : Rectangle) (op : Op) (c : Colour) : Type 0 where
  pub drawn : (p : Point) (rest : List Op) → has part p ≡ true → value (op ∷ rest) p black ≡ value rest p c
  pub whole : (rest : List Op) → is_whole (op ∷ rest) ≡ is_whole rest
  pub deep : (rest : List Op) → deepest 0 (op ∷ rest) ≡ deepest 0 rest
