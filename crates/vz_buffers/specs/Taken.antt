-- Bands of rows that painting threads take one by one.
use Rattle.std.specs.Prelude.{◌≡◌, ℕ, Bool, true, false, ◌+◌, ◌*◌, ◌≤◌, ◌<◌, List, [], ◌∷◌, length}
use Rattle.std.specs.Borrow.{GName}
use Rattle.std.specs.List.{All}
use Rattle.vz_base.specs.declared.limits.TheConstants.{GREATEST_DISPLAY_SIDE}
use Rattle.vz_pixels.specs.Colour.{Colour}
use Rattle.vz_buffers.specs.declared.bands.Place.{Place}
use Rattle.vz_buffers.specs.declared.bands.Band.{Band}
use Rattle.vz_buffers.specs.declared.crew.Parts.{Parts}
use Rattle.vz_buffers.specs.Bands.{Strip, FitsIn, rows_put, rows_from}

-- rows of which there are none
abbrev pub no_strip : Strip
no_strip = record { high = 0; row = λ k. [] }

-- what the first painter draws
abbrev pub strip_of : {P : Type 0} → (P → Strip) → List P → Strip
strip_of strip [] = no_strip
strip_of strip (p ∷ ps) = strip p

-- what all bands of a call have in common: the width of the display, the column at which the rows
-- begin, how wide they are, and the rows
pub record Work : Type 0 where
  pub width : ℕ
  pub left : ℕ
  pub wide : ℕ
  pub strip : Strip

-- one band: under which name its pixels were lent, what they were, its first row, and how many rows
-- it has
pub record Aim : Type 0 where
  pub name : GName
  pub before : List Colour
  pub from : ℕ
  pub count : ℕ

-- a painter can draw these rows, and they fit
pub record IsReady {P : Type 0} (able : P → Type 0) (strip : P → Strip) (w : Work) (p : P) : Type 0 where
  pub ready : able p
  pub draws : strip p ≡ w.strip
  pub fits : FitsIn w.width w.left w.wide w.strip
  pub small : w.width ≤ GREATEST_DISPLAY_SIDE

-- all painters can, and there is one
pub record AreReady {P : Type 0} (able : P → Type 0) (strip : P → Strip) (w : Work) (painters : List P) : Type 0 where
  pub some : 0 < length painters
  pub all : All (IsReady able strip w) painters

-- the rows stand there
pub record IsPlaced (w : Work) (place : Place) : Type 0 where
  pub across : place.width ≡ w.width
  pub behind : place.left ≡ w.left
  pub broad : place.wide ≡ w.wide

-- so many rows from one on are some of these, and the pixels are those of as many whole rows
pub record IsBand (w : Work) (from count : ℕ) (pixels : List Colour) : Type 0 where
  pub upto : from + count ≤ w.strip.high
  pub few : from + count ≤ GREATEST_DISPLAY_SIDE
  pub counted : length pixels ≡ count * w.width

-- the band that is meant is the one at hand
pub record IsTarget (g : Aim) (own : GName) (pixels : List Colour) (band : Band) : Type 0 where
  pub lent : own ≡ g.name
  pub held : pixels ≡ g.before
  pub first : band.from ≡ g.from
  pub many : band.count ≡ g.count

-- the first part of some rows may be held while the painters take bands: it is the band that is
-- meant, and the pixels of both parts are at hand
pub record MayHold {P : Type 0} (able : P → Type 0) (strip : P → Strip) (w : Work) (g : Aim) (parts : Parts) (painters : List P) (own : GName) (chunk rest : List Colour) : Type 0 where
  pub ready : AreReady able strip w painters
  pub target : IsTarget g own chunk parts.now
  pub band : IsBand w g.from g.count g.before
  pub next : IsBand w parts.later.from parts.later.count rest

-- the pixels with so many rows from one on put into them
abbrev pub drawn : Work → ℕ → ℕ → List Colour → List Colour
drawn w from count before = rows_put w.width w.left (rows_from from w.strip.row) count before

-- the same, if it was done
unfoldable pub drawn_if : Bool → Work → ℕ → ℕ → List Colour → List Colour
drawn_if true w from count before = drawn w from count before
drawn_if false w from count before = before

-- the band that was held is drawn, and its pixels are given back under the name under which they
-- came
pub record IsHeld (w : Work) (g : Aim) (own name : GName) (now : List Colour) : Type 0 where
  pub lent : name ≡ own
  pub put : now ≡ drawn w g.from g.count g.before
