-- Operations in a part of the display, and the parts of the display that passes and surfaces have.
use Rattle.std.specs.Prelude.{ℕ, List, [], ◌∷◌, ◌++◌, if◌then◌else◌}
use Rattle.vz_geom.specs.Rectangle.{Rectangle, is_empty_rect, minus, corner, meet, moved, sized}
use Rattle.vz_frame.specs.declared.blend.Blend.{Blend}
use Rattle.vz_frame.specs.declared.frame.RenderPass.{RenderPass}
use Rattle.vz_frame.specs.Frame.{frame_size}
use Rattle.vz_rules.specs.World.{FrameData}
use Rattle.vz_rules.specs.Walk.{Placement}
use Rattle.vz_flat.specs.declared.op.Op.{Op}
use Rattle.vz_flat.specs.declared.op.Op.TheVariants.{Push, Pop}

-- the operations, or none if the part has no points
abbrev pub seen_flat : Rectangle → List Op → List Op
seen_flat part ops = if is_empty_rect part then [] else ops

-- operations as a group in a part
abbrev pub grouped_flat : Rectangle → Blend → ℕ → List Op → List Op
grouped_flat part m o body = Push part o m ∷ (body ++ Pop ∷ [])

-- the part of the display in which a pass has points
abbrev pub pass_part : RenderPass → Placement → Rectangle
pass_part pass place = meet place.window (moved pass.output place.shift)

-- the place of a pass that is drawn with its output's corner at this place
abbrev pub inner_place : RenderPass → Placement → Placement
inner_place pass place = record place { shift = minus place.shift (corner pass.output) }

-- the place of a surface, limited to the part in which it has points
abbrev pub surface_place : FrameData → Placement → Placement
surface_place i place = record place { window = meet place.window (moved (sized (frame_size i.frame)) place.shift) }
