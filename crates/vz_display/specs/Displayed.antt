-- A display: its buffers in turn, and their pixels.
use Rattle.std.specs.Prelude.{◌≡◌, ℕ, ◌+◌, ◌-◌, ◌*◌, ◌^◌, ◌≤◌, ℤ, nat_abs, min, Option, Some, None, unwrap_or, List, [], ◌∷◌, ◌++◌, length, map, take, drop}
use Rattle.std.specs.Prelude.{slice_get, replicate, reverse}
use Rattle.vz_base.specs.declared.limits.TheConstants.{MOST_BUFFERS}
use Rattle.vz_geom.specs.declared.Size.{Size}
use Rattle.vz_geom.specs.Rectangle.{Rectangle, Covers, sized, area_of, points_of}
use Rattle.vz_pixels.specs.Colour.{Colour, black}
use Rattle.vz_buffers.specs.Canvas.{Canvas, pixel_count}
use Rattle.vz_geom.specs.Display.{IsDisplaySize}
use Rattle.vz_buffers.specs.Turns.{Turns, first_turns, stale_of, damaged, turned, turns_after}
use Rattle.vz_rules.specs.Plan.{Plan}
use Rattle.vz_rules.specs.declared.entry.Entry.{Entry}
use Rattle.vz_rules.specs.Frames.{DrawnFrame, drawn_frames, patched, written_of, written, painted_of}
use Rattle.vz_machine.specs.Pictured.{Pictured, colours_in}

-- the turns of the buffers, the pixels of each, from the one painted last to the next one, and the
-- steps so far; a buffer is None until it is made
pub record Displayed : Type 0 where
  pub turns : Turns
  pub kept : List (Option Canvas)
  pub painted : ℕ

-- every stale rectangle is on the display
abbrev pub AreOn : Size → List (Option Rectangle) → Type 0
AreOn size [] = Unit {0}
AreOn size (None ∷ rs) = AreOn size rs
AreOn size (Some r ∷ rs) = Covers (sized size) r × AreOn size rs

-- each buffer that was made has the display's size
abbrev pub HaveSize : Size → List (Option Canvas) → Type 0
HaveSize size [] = Unit {0}
HaveSize size (None ∷ bs) = HaveSize size bs
HaveSize size (Some b ∷ bs) = (b.size ≡ size) × HaveSize size bs

-- there are no more buffers than the limit, all of the display's size, and every stale rectangle
-- is on it
pub record IsDisplayed (d : Displayed) : Type 0 where
  pub sides : IsDisplaySize d.turns.size
  pub few : length d.kept ≤ MOST_BUFFERS
  pub stales : AreOn d.turns.size d.turns.stales
  pub sizes : HaveSize d.turns.size d.kept

-- what a display shows, and how many occluded items were removed of the pictures that it showed
pub record DisplayState : Type 0 where
  pub shown : Displayed
  pub removed : ℕ

-- so many buffers that were never made
abbrev pub first_displayed : Size → ℕ → Displayed
first_displayed size count = record { turns = first_turns size count; kept = replicate count None; painted = 0 }

-- the next buffer, if it was made
abbrev pub last_in : List (Option Canvas) → Option Canvas
last_in kept = unwrap_or (slice_get kept (length kept - 1)) None

-- the pixels of the next buffer; they are black if it is made now
abbrev pub pixels_in : Size → Option Canvas → List Colour
pixels_in size None = replicate (pixel_count size) black
pixels_in size (Some b) = b.pixels

-- the steps for making the next buffer, if it is made now
abbrev pub making_in : Size → Option Canvas → ℕ
making_in size None = pixel_count size
making_in size (Some b) = 0

-- the stale rectangle of the next buffer, with one more damage
abbrev pub stale_now : Displayed → Rectangle → Rectangle
stale_now d r = stale_of (damaged d.turns r)

-- the steps for showing a picture with this damage
unfoldable pub steps_for : Displayed → Rectangle → ℕ
steps_for d r = making_in d.turns.size (last_in d.kept) + area_of (stale_now d r)

-- a count that stays at the greatest number of 64 bits
abbrev pub upto_most : ℕ → ℕ
upto_most n = min n (2 ^ 64 - 1)

-- the steps that it costs a display to show a picture
abbrev pub cost : DisplayState → Pictured → ℕ
cost d p = steps_for d.shown p.changed

-- how many occluded items are removed in all, with so many more
abbrev pub removed_with : DisplayState → ℕ → ℕ
removed_with d gone = upto_most (d.removed + gone)

-- the frame for a picture: the picture's colours inside the stale rectangle of the next buffer,
-- and the buffer's old colours outside
unfoldable pub frame_of : Displayed → Pictured → List Colour
frame_of d p = patched (stale_now d p.changed) (points_of p.size) (colours_in p) (pixels_in d.turns.size (last_in d.kept))

-- the display after it shows one more picture
unfoldable pub shown : Displayed → Pictured → Displayed
shown d p =
    record {
      turns = turned (damaged d.turns p.changed);
      kept = Some (record { size = d.turns.size; pixels = frame_of d p }) ∷ take (length d.kept - 1) d.kept;
      painted = upto_most (d.painted + steps_for d p.changed);
    }

-- the pixels of the buffer that was painted last, if there is one
abbrev pub current : Displayed → Option Canvas
current d = unwrap_or (slice_get d.kept 0) None

-- a buffer with this frame
abbrev pub buffer_with : Size → List Colour → Option Canvas
buffer_with size frame = Some (record { size = size; pixels = frame })

-- a display with so many buffers after these drawings, newest first: its newest written frames,
-- and the points it painted
unfoldable pub display_after : Size → ℕ → List DrawnFrame → Displayed
display_after size count drawn =
    record {
      turns = turns_after size count (map (λ s. s.damage) drawn);
      kept = take count (map (buffer_with size) (written_of size count drawn) ++ replicate count None);
      painted = upto_most (painted_of size count drawn);
    }

-- the row of a buffer, starting at its first pixel
abbrev pub row_at : Canvas → ℤ → List Colour
row_at b y = take (nat_abs b.size.w) (drop (nat_abs y * nat_abs b.size.w) b.pixels)

-- a display with so many buffers after a history
unfoldable pub display_at : Plan → List Entry → ℕ → Displayed
display_at p h count = display_after p.size count (reverse (drawn_frames p h))

-- the frame that an entry adds to the written ones is the one that the display has then
pub record IsNext (p : Plan) (h : List Entry) (e : Entry) (count : ℕ) : Type 0 where
  pub frame : List Colour
  pub more : written p (h ++ e ∷ []) count ≡ written p h count ++ frame ∷ []
  pub is : current (display_at p (h ++ e ∷ []) count) ≡ buffer_with p.size frame
