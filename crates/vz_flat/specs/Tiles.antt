-- The operations of a tile: the texels of its block in the window of its place.
use Rattle.std.specs.Prelude.{ℕ, pos, Option, Some, None, List, [], ◌∷◌}
use Rattle.vz_geom.specs.declared.Point.{Point}
use Rattle.vz_geom.specs.Rectangle.{Rectangle, plus, minus, corner}
use Rattle.vz_pixels.specs.Colour.{transparent}
use Rattle.vz_pixels.specs.Block.{Block}
use Rattle.vz_frame.specs.declared.blend.Blend.{Blend}
use Rattle.vz_rules.specs.World.{FrameData}
use Rattle.vz_rules.specs.Paint.{block_of}
use Rattle.vz_rules.specs.Walk.{Placement}
use Rattle.vz_flat.specs.declared.op.Op.{Op}
use Rattle.vz_flat.specs.declared.op.Op.TheVariants.{Fill, Blit}

-- the texel at the first point of the window, if (tx, ty) is the first texel of the tile
abbrev pub first_texel : ℕ → ℕ → Placement → Point
first_texel tx ty place = plus (minus (corner place.window) place.shift) (record { x = pos tx; y = pos ty })

-- a blit of a block's texels, or a transparent fill if there is no block
abbrev pub texels_flat : Option Block → Point → Blend → ℕ → Rectangle → List Op
texels_flat None first m o window = Fill window transparent o m ∷ []
texels_flat (Some block) first m o window = Blit window block first.x first.y o m ∷ []

-- the operations for a tile of a frame, by its resource, its first texel, the mode, the opacity
-- and the place
unfoldable pub tile_flat : FrameData → ℕ → ℕ → ℕ → Blend → ℕ → Placement → List Op
tile_flat i id tx ty m o place = texels_flat (block_of id i.frame.resources i.blocks) (first_texel tx ty place) m o place.window
