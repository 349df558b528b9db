-- The operations of a gutter: the background in the parts of a window round a surface.
use Rattle.std.specs.Prelude.{◌+ℤ◌, ◌-ℤ◌, ◌≤ℤ◌, if◌then◌else◌, List, [], ◌∷◌}
use Rattle.std.specs.List.{flat_map}
use Rattle.vz_geom.specs.Rectangle.{Rectangle, IsRectangle, is_empty_rect, with_sides}
use Rattle.vz_ids.specs.declared.SurfaceRange.{SurfaceRange}
use Rattle.vz_ids.specs.Ids.{same_surface}
use Rattle.vz_pixels.specs.Colour.{Colour}
use Rattle.vz_frame.specs.declared.blend.Blend.TheVariants.{Over}
use Rattle.vz_rules.specs.World.{FrameData}
use Rattle.vz_rules.specs.Walk.{Placement}
use Rattle.vz_flat.specs.declared.op.Op.{Op}
use Rattle.vz_flat.specs.declared.op.Op.TheVariants.{Fill}
use Rattle.vz_flat.specs.Parts.{seen_flat, surface_place}

-- the inner rectangle's edges are within the outer one's, and those are within the limit
pub record LiesIn (outer inner : Rectangle) : Type 0 where
  pub left : outer.x ≤ℤ inner.x
  pub top : outer.y ≤ℤ inner.y
  pub right : (inner.x +ℤ inner.w) ≤ℤ (outer.x +ℤ outer.w)
  pub bottom : (inner.y +ℤ inner.h) ≤ℤ (outer.y +ℤ outer.h)
  pub outer_edges : IsRectangle outer
  pub inner_edges : IsRectangle inner

-- the parts of a rectangle above and below another one inside it, and to the left and right of it
abbrev pub above : Rectangle → Rectangle → Rectangle
above outer inner = with_sides outer.x outer.y outer.w (inner.y -ℤ outer.y)

abbrev pub beneath : Rectangle → Rectangle → Rectangle
beneath outer inner = with_sides outer.x (inner.y +ℤ inner.h) outer.w ((outer.y +ℤ outer.h) -ℤ (inner.y +ℤ inner.h))

abbrev pub left_of : Rectangle → Rectangle → Rectangle
left_of outer inner = with_sides outer.x inner.y (inner.x -ℤ outer.x) inner.h

abbrev pub right_of : Rectangle → Rectangle → Rectangle
right_of outer inner = with_sides (inner.x +ℤ inner.w) inner.y ((outer.x +ℤ outer.w) -ℤ (inner.x +ℤ inner.w)) inner.h

-- the parts of a rectangle round another one inside it; if that one is empty, the whole rectangle
unfoldable pub parts_round : Rectangle → Rectangle → List Rectangle
parts_round outer inner =
    if is_empty_rect inner then outer ∷ []
    else above outer inner ∷ beneath outer inner ∷ left_of outer inner ∷ right_of outer inner ∷ []

-- a fill of a part with a colour, over what is there
abbrev pub part_flat : Colour → Rectangle → List Op
part_flat b part = seen_flat part (Fill part b 255 Over ∷ [])

-- the background round a surface, if it is not the range's end
unfoldable pub gutter_flat : SurfaceRange → Colour → FrameData → Placement → List Op
gutter_flat range b i place =
    if same_surface i.id range.end then [] else flat_map (part_flat b) (parts_round place.window (surface_place i place).window)
