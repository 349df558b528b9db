-- Rows that painters draw, and pixels with these rows put into them.
use Rattle.std.specs.Prelude.{◌≡◌, ℕ, zero, suc, ◌+◌, ◌*◌, ◌≤◌, ◌<◌, pos, nat_abs, ◌+ℤ◌, ◌≤ℤ◌, List, length}
use Rattle.std.specs.List.{All}
use Rattle.vz_base.specs.declared.limits.TheConstants.{GREATEST_DISPLAY_SIDE}
use Rattle.vz_geom.specs.declared.Size.{Size}
use Rattle.vz_geom.specs.Rectangle.{Rectangle}
use Rattle.vz_pixels.specs.Colour.{Colour}
use Rattle.vz_buffers.specs.declared.bands.Place.{Place}
use Rattle.vz_buffers.specs.Canvas.{Canvas, span_put, pixel_place}

-- rows of colours: how many there are, and each by its number
pub record Strip : Type 0 where
  pub high : ℕ
  pub row : ℕ → List Colour

-- every row is so wide, and all of them stand behind so many columns of so many
pub record FitsIn (width left wide : ℕ) (s : Strip) : Type 0 where
  pub each : (k : ℕ) → length (s.row k) ≡ wide
  pub inside : left + wide ≤ width

-- the pixels with so many rows put into them, the first one at a place, each so far behind the one
-- before
unfoldable pub rows_put : ℕ → ℕ → (ℕ → List Colour) → ℕ → List Colour → List Colour
rows_put width at row zero pixels = pixels
rows_put width at row (suc k) pixels = span_put (rows_put width at row k pixels) (k * width + at) (row k)

-- the rows from one on
abbrev pub rows_from : ℕ → (ℕ → List Colour) → ℕ → List Colour
rows_from first row k = row (first + k)

-- painters that can draw, and all draw one strip: it fits, and has rows up to one
abbrev pub ArePainters : {P : Type 0} → (P → Type 0) → (P → Strip) → ℕ → ℕ → ℕ → ℕ → List P → Type 0
ArePainters able strip width left wide upto painters =
    (s : Strip) × FitsIn width left wide s × (upto ≤ s.high) × All (λ p. able p × (strip p ≡ s)) painters

-- painters may paint so many rows from one on into the pixels of as many whole rows
pub record MayPaint {P : Type 0} (able : P → Type 0) (strip : P → Strip) (width left wide from count : ℕ) (painters : List P) (pixels : List Colour) : Type 0 where
  pub some : 0 < length painters
  pub ready : ArePainters able strip width left wide (from + count) painters
  pub small : width ≤ GREATEST_DISPLAY_SIDE
  pub few : from + count ≤ GREATEST_DISPLAY_SIDE
  pub counted : length pixels ≡ count * width

-- the rows were painted
abbrev pub ArePainted : {P : Type 0} → (P → Strip) → ℕ → ℕ → ℕ → ℕ → List P → List Colour → List Colour → Type 0
ArePainted strip width left from count painters before after =
    (s : Strip) → All (λ p. strip p ≡ s) painters → after ≡ rows_put width left (rows_from from s.row) count before

-- painters may paint so many rows of an area into the pixels of a display
pub record MayFill {P : Type 0} (able : P → Type 0) (strip : P → Strip) (place : Place) (count : ℕ) (painters : List P) (pixels : List Colour) : Type 0 where
  pub some : 0 < length painters
  pub ready : ArePainters able strip place.width place.left place.wide count painters
  pub small : place.width ≤ GREATEST_DISPLAY_SIDE
  pub few : place.top + count ≤ GREATEST_DISPLAY_SIDE
  pub inside : (place.top + count) * place.width ≤ length pixels

-- these rows of the area were painted
abbrev pub IsFilled : {P : Type 0} → (P → Strip) → Place → ℕ → List P → List Colour → List Colour → Type 0
IsFilled strip place count painters before after =
    (s : Strip) → All (λ p. strip p ≡ s) painters → after ≡ rows_put place.width (place.top * place.width + place.left) s.row count before

-- painters may put the rows of an area into a buffer: the area is not empty and inside, there is a
-- painter, each can draw, and all draw the same rows, which are as many and as wide as the area's
pub record MayPut {P : Type 0} (able : P → Type 0) (strip : P → Strip) (size : Size) (area : Rectangle) (painters : List P) : Type 0 where
  pub left : pos 0 ≤ℤ area.x
  pub top : pos 0 ≤ℤ area.y
  pub bottom : (area.y +ℤ area.h) ≤ℤ size.h
  pub wide : pos 1 ≤ℤ area.w
  pub high : pos 1 ≤ℤ area.h
  pub some : 0 < length painters
  pub ready : ArePainters able strip (nat_abs size.w) (nat_abs area.x) (nat_abs area.w) (nat_abs area.h) painters

-- the rows that the painters draw were put into the area
abbrev pub ArePut : {P : Type 0} → (P → Strip) → Canvas → Rectangle → List P → List Colour → Type 0
ArePut strip c area painters after =
    (s : Strip) → All (λ p. strip p ≡ s) painters → after ≡ rows_put (nat_abs c.size.w) (pixel_place c.size area.x area.y) s.row (nat_abs area.h) c.pixels
