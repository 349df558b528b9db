-- The frame that a display shows.
use Rattle.std.specs.Prelude.{◌≡◌, Some, None, List, [], length}
use Rattle.vz_geom.specs.Display.{IsDisplaySize}
use Rattle.vz_pixels.specs.Colour.{Colour}
use Rattle.vz_buffers.specs.Canvas.{pixel_count}
use Rattle.vz_display.specs.Displayed.{Displayed, current, buffer_with}

-- the frame in the current buffer of a display, or nothing if none was painted
abbrev pub frame_on : Displayed → List Colour
frame_on d = elim (current d) [ Some buffer ↦ buffer.pixels | None ↦ [] ]

-- a display of an allowed size shows a frame of its size, with one pixel for each point
pub record ShowsFrame (d : Displayed) : Type 0 where
  pub sides : IsDisplaySize d.turns.size
  pub current : current d ≡ buffer_with d.turns.size (frame_on d)
  pub whole : length (frame_on d) ≡ pixel_count d.turns.size
