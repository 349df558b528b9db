-- What always holds of passes and quads of accepted frames.
use Rattle.std.specs.Prelude.{◌≡◌, ℕ, pos, ◌+ℤ◌, ◌≤ℤ◌, ◌≤◌, Some, length}
use Rattle.std.specs.List.{All}
use Rattle.vz_base.specs.declared.limits.TheConstants.{MOST_PASSES}
use Rattle.vz_geom.specs.Rectangle.{Covers}
use Rattle.vz_pixels.specs.Block.{Block}
use Rattle.vz_frame.specs.declared.frame.RenderPass.{RenderPass}
use Rattle.vz_frame.specs.declared.frame.DrawQuad.{DrawQuad}
use Rattle.vz_frame.specs.declared.frame.Material.TheVariants.{Tile}
use Rattle.vz_rules.specs.World.{FrameData}
use Rattle.vz_rules.specs.Paint.{block_of}
use Rattle.vz_placement.specs.Limits.{IsPassInReach, IsQuadInReach}

-- the texels of a rectangle whose first texel is (tx, ty) are inside a block
pub record IsInBlock (quad : DrawQuad) (tx ty : ℕ) (block : Block) : Type 0 where
  pub columns : (pos tx +ℤ quad.area.w) ≤ℤ pos block.w
  pub rows : (pos ty +ℤ quad.area.h) ≤ℤ pos block.h

-- a quad's numbers are within bounds, nothing outside its rectangle is visible, and a tile's
-- texels are inside its block
pub record IsQuadWhole (i : FrameData) (quad : DrawQuad) : Type 0 where
  pub reach : IsQuadInReach quad
  pub visible : Covers quad.area quad.visible
  pub tile : (id tx ty : ℕ) (block : Block) → quad.material ≡ Tile id tx ty → block_of id i.frame.resources i.blocks ≡ Some block
      → IsInBlock quad tx ty block

-- a pass's numbers are within bounds, and its quads are whole
pub record IsPassWhole (i : FrameData) (pass : RenderPass) : Type 0 where
  pub reach : IsPassInReach pass
  pub quads : All (IsQuadWhole i) pass.quads

-- the passes of a frame are whole, and there are no more than the limit
pub record IsFrameWhole (i : FrameData) : Type 0 where
  pub passes : All (IsPassWhole i) i.frame.passes
  pub few : length i.frame.passes ≤ MOST_PASSES
