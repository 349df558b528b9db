-- What contracts know of a picture of a display.
use Rattle.std.specs.Prelude.{◌≡◌, ℕ, pos, ◌+ℤ◌, ◌≤ℤ◌, List, length, map, get_or}
use Rattle.vz_geom.specs.declared.Point.{Point}
use Rattle.vz_geom.specs.declared.Size.{Size}
use Rattle.vz_geom.specs.Rectangle.{Rectangle, Covers, sized, points_of}
use Rattle.vz_pixels.specs.Colour.{Colour, black}
use Rattle.vz_buffers.specs.Canvas.{pixel_count, pixel_place}
use Rattle.vz_geom.specs.Display.{IsDisplaySize}

-- a picture: its size, the colour at each point, and the rectangle that changed since the last
-- picture
pub record Pictured : Type 0 where
  pub size : Size
  pub colour : Point → Colour
  pub changed : Rectangle

-- the picture has the size of a display, and the changed rectangle is on it
pub record IsPictured (p : Pictured) : Type 0 where
  pub sides : IsDisplaySize p.size
  pub inside : Covers (sized p.size) p.changed

-- the colours of all points, row by row
abbrev pub colours_in : Pictured → List Colour
colours_in p = map p.colour (points_of p.size)

-- all pixels of a picture, row by row, and the changed rectangle
pub record Pixelled : Type 0 where
  pub size : Size
  pub pixels : List Colour
  pub changed : Rectangle

-- there is one pixel for each point of a display
pub record IsPixelled (p : Pixelled) : Type 0 where
  pub sides : IsDisplaySize p.size
  pub all : length p.pixels ≡ pixel_count p.size
  pub inside : Covers (sized p.size) p.changed

-- the picture with these pixels
abbrev pub picture_with : Pixelled → Pictured
picture_with p =
    record { size = p.size; colour = λ q. get_or p.pixels (pixel_place p.size q.x q.y) black; changed = p.changed }

-- the row of an area, so many rows below its first one
abbrev pub row_of : Rectangle → ℕ → Rectangle
row_of area below = record { x = area.x; y = area.y +ℤ pos below; w = area.w; h = pos 1 }

-- the first so many rows of an area
abbrev pub first_rows : Rectangle → ℕ → Rectangle
first_rows area count = record { x = area.x; y = area.y; w = area.w; h = pos count }

-- the inner area is inside the outer one
pub record IsInside (outer inner : Rectangle) : Type 0 where
  pub left : outer.x ≤ℤ inner.x
  pub top : outer.y ≤ℤ inner.y
  pub right : (inner.x +ℤ inner.w) ≤ℤ (outer.x +ℤ outer.w)
  pub bottom : (inner.y +ℤ inner.h) ≤ℤ (outer.y +ℤ outer.h)
  pub wide : pos 1 ≤ℤ inner.w
  pub high : pos 1 ≤ℤ inner.h
