-- Which surface is being painted, and with what around it.
use Rattle.std.specs.Prelude.{ℕ, List, reverse, true, false}
use Rattle.vz_ids.specs.declared.SurfaceId.{SurfaceId}
use Rattle.vz_ids.specs.declared.SurfaceRange.{SurfaceRange}
use Rattle.vz_frame.specs.declared.blend.Blend.{Blend}
use Rattle.vz_frame.specs.declared.frame.DrawQuad.{DrawQuad}
use Rattle.vz_frame.specs.declared.frame.RenderPass.{RenderPass}
use Rattle.vz_geom.specs.declared.Point.{Point}
use Rattle.vz_pixels.specs.Colour.{Colour}
use Rattle.vz_rules.specs.World.{FrameData}
use Rattle.vz_rules.specs.Paint.{Named, Embedding, Content, groups, embeds, pix, covers, is_absent}
use Rattle.vz_rules.specs.Paint.{material_painted, pass_painted, group_laid, content_at, content_laid}

-- a painter in a frame, with the surfaces of the path above it, and how many more the path may
-- have
pub record Painter : Type 0 where
  pub active : List FrameData
  pub levels : ℕ
  pub path : List SurfaceId
  pub submitted : FrameData

-- the colour that a surface embedded here leaves
abbrev pub embedded : Painter → Content
embedded p = pix p.levels p.active

-- what a range here does with a colour
abbrev pub ranges : Painter → Embedding
ranges p = embeds (embedded p) p.active p.path

-- what these passes here do with a colour, by their ids
abbrev pub passes_in : Painter → List RenderPass → Named
passes_in p passes = groups p.submitted (ranges p) (reverse passes)

-- what a quad here that covers the point does with a colour, with these passes to draw
abbrev pub quad_here : Painter → List RenderPass → DrawQuad → Point → Colour → Colour
quad_here p earlier quad = material_painted p.submitted (passes_in p earlier) (ranges p) quad

-- what a pass here does with a colour, with these passes to draw
abbrev pub pass_here : Painter → List RenderPass → RenderPass → Point → Colour → Colour
pass_here p earlier pass = pass_painted p.submitted (passes_in p earlier) (ranges p) pass

-- what a pass here does with a colour as a group, with these passes to draw
abbrev pub group_here : Painter → List RenderPass → RenderPass → Blend → ℕ → Point → Colour → Colour
group_here p earlier pass = group_laid p.submitted (passes_in p earlier) (ranges p) pass

-- what the content of a shown surface here does with a colour, with this background
abbrev pub content_here : Painter → Colour → FrameData → Point → Colour → Colour
content_here p background i = content_at (embedded p) p.path background i

-- what a quad here does with a colour: nothing at a point that it does not cover
abbrev pub quad_covered : Painter → List RenderPass → RenderPass → DrawQuad → Point → Colour → Colour
quad_covered p earlier pass quad q d = elim (covers pass quad q) [ true ↦ quad_here p earlier quad q d | false ↦ d ]

-- what the content of a shown surface here does with a colour inside its size
abbrev pub inside_here : Painter → FrameData → Blend → ℕ → Point → Colour → Colour
inside_here p i m o l d = content_laid (embedded p p.path i l) m o d

-- what a shown surface here that is not on the path does with a colour
abbrev pub shown_here : Painter → SurfaceRange → Colour → FrameData → Blend → ℕ → Point → Colour → Colour
shown_here p range background i m o l d =
    elim (is_absent range i l) [ true ↦ d | false ↦ content_laid (content_here p background i l) m o d ]
