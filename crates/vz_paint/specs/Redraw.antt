-- Some rows of a display of which the same columns are drawn again.
use Rattle.std.specs.Prelude.{◌≡◌, ℕ, pos, ◌+◌, ◌*◌, ◌≤◌, ◌<◌, ◌+ℤ◌, ◌≤ℤ◌, List, length, get_or, map, if◌then◌else◌, Some}
use Rattle.std.specs.List.{range_with_len}
use Rattle.vz_base.specs.declared.limits.TheConstants.{GREATEST_DISPLAY_SIDE}
use Rattle.vz_geom.specs.declared.Point.{Point}
use Rattle.vz_geom.specs.Rectangle.{has, plus, minus, corner}
use Rattle.vz_pixels.specs.Colour.{Colour, transparent}
use Rattle.vz_frame.specs.Blending.{laid}
use Rattle.vz_rules.specs.Paint.{texel_of}
use Rattle.vz_flat.specs.declared.op.Op.{Op}
use Rattle.vz_flat.specs.declared.op.Op.TheVariants.{Fill, Blit, Push, Pop}
use Rattle.vz_flat.specs.Ops.{value}
use Rattle.vz_paint.specs.declared.group.OpenGroup.{OpenGroup}
use Rattle.vz_paint.specs.Row.{IsStart}

-- the point that is so many rows below and so many columns right of another
abbrev pub point_of : Point → ℕ → ℕ → Point
point_of p r i = record { x = p.x +ℤ pos i; y = p.y +ℤ pos r }

-- rows of a display of which some columns are drawn, the first ones at a point: they are pixels of
-- a list
pub record AreLines (start : Point) (width left wide count : ℕ) (pixels : List Colour) : Type 0 where
  pub begins : IsStart start
  pub top : pos 0 ≤ℤ start.y
  pub bottom : (start.y +ℤ pos count) ≤ℤ pos GREATEST_DISPLAY_SIDE
  pub inside : left + wide ≤ width
  pub small : width ≤ GREATEST_DISPLAY_SIDE
  pub few : count ≤ GREATEST_DISPLAY_SIDE
  pub long : length pixels ≡ count * width

-- an index at which none of these columns of these rows is
abbrev pub IsOutside : ℕ → ℕ → ℕ → ℕ → ℕ → Type 0
IsOutside width left wide count j = (r i : ℕ) → r < count → i < wide → j ≡ (r * width + left) + i → ⊥

-- each pixel of these columns of these rows was changed, by its row and its column, and no other
pub record IsRedrawn (width left wide count : ℕ) (f : ℕ → ℕ → Colour → Colour) (before now : List Colour) : Type 0 where
  pub long : length now ≡ length before
  pub each : (r i : ℕ) → r < count → i < wide → get_or now ((r * width + left) + i) transparent ≡ f r i (get_or before ((r * width + left) + i) transparent)
  pub rest : (j : ℕ) → IsOutside width left wide count j → get_or now j transparent ≡ get_or before j transparent

-- what an operation that is in no group does to the colour in a row and a column from a point on
abbrev pub step_of : Point → Op → ℕ → ℕ → Colour → Colour
step_of start (Fill area c o m) r i d = if has area (point_of start r i) then laid m c o d else d
step_of start (Blit area block tx ty o m) r i d =
    if has area (point_of start r i) then laid m (texel_of (Some block) (plus (minus (point_of start r i) (corner area)) (record { x = tx; y = ty }))) o d else d
step_of start (Push area o m) r i d = d
step_of start Pop r i d = d

-- what the rows of a group do to the colour in a row and a column from a point on
abbrev pub lays : Point → ℕ → OpenGroup → ℕ → ℕ → Colour → Colour
lays start wide g r i d = if has g.area (point_of start r i) then laid g.mode (get_or g.pixels.items (r * wide + i) transparent) g.opacity d else d

-- the rows that operations make of a colour, from a point on
abbrev pub rows_of : List Op → Colour → Point → ℕ → ℕ → List Colour
rows_of ops base start wide k = map (λ i. value ops (point_of start k i) base) (range_with_len 0 wide)
