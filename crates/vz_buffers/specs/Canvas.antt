-- The pixels of a display.
use Rattle.std.specs.Prelude.{◌≡◌, ℕ, ℤ, nat_abs, ◌+◌, ◌*◌, List, ◌++◌, length, take, drop}
use Rattle.vz_geom.specs.declared.Size.{Size}
use Rattle.vz_pixels.specs.Colour.{Colour}
use Rattle.vz_geom.specs.Display.{IsDisplaySize}

-- the pixels of a display of this size, row by row from the top, each row from left to right
pub record Canvas : Type 0 where
  pub size : Size
  pub pixels : List Colour

-- how many pixels there are
abbrev pub pixel_count : Size → ℕ
pixel_count size = nat_abs size.w * nat_abs size.h

-- a size in range, and a pixel for each place
pub record IsCanvas (c : Canvas) : Type 0 where
  pub sides : IsDisplaySize c.size
  pub all : length c.pixels ≡ pixel_count c.size

-- the index of the pixel in this column and row
abbrev pub pixel_place : Size → ℤ → ℤ → ℕ
pixel_place size x y = nat_abs y * nat_abs size.w + nat_abs x

-- the pixels with those from a place on replaced by a span
unfoldable pub span_put : List Colour → ℕ → List Colour → List Colour
span_put pixels place span = take place pixels ++ span ++ drop (place + length span) pixels
