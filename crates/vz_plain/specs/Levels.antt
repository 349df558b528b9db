-- Passes that are being painted, each on a row of its own, and what becomes of the row below all of them.
use Rattle.std.specs.Prelude.{◌≡◌, ◌<◌, ◌≤◌, ℕ, ◌+◌, ◌-◌, ◌*◌, ◌&&◌, nat_le, nat_lt, if◌then◌else◌, Option, Some, None, List, [], ◌∷◌, reverse, length, get_or}
use Rattle.vz_ids.specs.declared.SurfaceId.{SurfaceId}
use Rattle.vz_frame.specs.declared.blend.Blend.{Blend}
use Rattle.vz_frame.specs.declared.frame.DrawQuad.{DrawQuad}
use Rattle.vz_frame.specs.declared.frame.RenderPass.{RenderPass}
use Rattle.vz_frame.specs.Blending.{laid}
use Rattle.vz_geom.specs.declared.Point.{Point}
use Rattle.vz_pixels.specs.Colour.{Colour, transparent}
use Rattle.vz_rules.specs.World.{FrameData}
use Rattle.vz_rules.specs.Paint.{quads_painted}
use Rattle.vz_plain.specs.declared.span.TheConstants.{PIECE}
use Rattle.vz_plain.specs.Rows.{IsPainted}
use Rattle.vz_plain.specs.Painting.{Painter, embedded, passes_in, ranges}

-- a pass of a frame that is painted on a row of its own, from its first point on: its quads that
-- are not painted yet, and where and how the row is then laid on the row below
pub record Level : Type 0 where
  pub levels : ℕ
  pub path : List SurfaceId
  pub submitted : FrameData
  pub earlier : List RenderPass
  pub pass : RenderPass
  pub quads : List DrawQuad
  pub start : Point
  pub row : List Colour
  pub from : ℕ
  pub mode : Blend
  pub opacity : ℕ

-- a row that is laid on places of a piece of a row
pub record IsShort (own : List Colour) (place : ℕ) : Type 0 where
  pub few : length own ≤ PIECE
  pub near : place ≤ PIECE

-- the same with these quads left
abbrev pub quads_left : Level → List DrawQuad → Level
quads_left l quads = record l { quads = quads }

-- the same with another row
abbrev pub row_now : Level → List Colour → Level
row_now l row = record l { row = row }

-- the same, laid further right
abbrev pub moved : ℕ → Level → Level
moved by l = record l { from = l.from + by }

-- the painter that is inside of the level's frame
abbrev pub painter_at : List FrameData → Level → Painter
painter_at active l = record { active = active; levels = l.levels; path = l.path; submitted = l.submitted }

-- what the quads that are left do with a colour of the row
abbrev pub rest : List FrameData → Level → Point → Colour → Colour
rest active l = quads_painted l.submitted (passes_in (painter_at active l) l.earlier) (ranges (painter_at active l)) l.pass l.quads

-- a row is laid on the row below as a level says
pub record IsJoined (l : Level) (row under new : List Colour) : Type 0 where
  pub long : length new ≡ length under
  pub each : (i : ℕ) → i < length under
      → get_or new i transparent
      ≡ (if nat_le l.from i && nat_lt i (l.from + length row) then laid l.mode (get_or row (i - l.from) transparent) l.opacity (get_or under i transparent)
      else get_or under i transparent)

-- a row is painted as a change tells, once a level is painted and laid on it
pub record IsWaiting (active : List FrameData) (change : Point → Colour → Colour) (start : Point) (old new : List Colour) (l : Level) : Type 0 where
  pub fits : l.from + length l.row ≤ length new
  pub long : length new ≡ length old
  pub ends : (row last : List Colour) → IsPainted (rest active l) l.start l.row row → IsJoined l row new last → IsPainted change start old last

-- a row is painted as a change tells, or will be by a level that is still to be painted
abbrev pub IsPaintedWith : List FrameData → (Point → Colour → Colour) → Point → List Colour → List Colour → Option Level → Type 0
IsPaintedWith active change start old new None = IsPainted change start old new
IsPaintedWith active change start old new (Some l) = IsWaiting active change start old new l

-- the row below these levels, the last of which is first in the list
abbrev pub row_under : List Colour → List Level → List Colour
row_under base [] = base
row_under base (l ∷ below) = l.row

-- each row has the places that the row above it is laid on
abbrev pub AllFit : List Colour → List Level → ℕ → Type 0
AllFit base [] long = long ≡ length base
AllFit base (l ∷ below) long = (l.from + long ≤ length (row_under base below)) × AllFit base below (length (row_under base below))

-- the base is this in the end: the levels are painted one after another, each laid on the row below
abbrev pub EndsAs : List FrameData → List Colour → List Level → List Colour → List Colour → Type 0
EndsAs active base [] now last = now ≡ last
EndsAs active base (l ∷ below) now last =
    (row under : List Colour) × IsPainted (rest active l) l.start now row × IsJoined l row (row_under base below) under × EndsAs active base below under last

-- the same of a stack, of which the last level is painted first
abbrev pub StackFits : List Colour → List Level → Type 0
StackFits base stack = AllFit base (reverse stack) (length (row_under base (reverse stack)))

abbrev pub StackEnds : List FrameData → List Colour → List Level → List Colour → Type 0
StackEnds active base stack last = EndsAs active base (reverse stack) (row_under base (reverse stack)) last

-- more than any frame has passes
abbrev pub wide : ℕ
wide = 36893488147419103232

-- how high a pass is: more surfaces that the path may have count for more than all passes before it
abbrev pub height : ℕ → List RenderPass → ℕ
height levels earlier = levels * wide + length earlier

-- a level is lower than a pass, and has no more quads than a list can have
pub record IsLower (levels : ℕ) (earlier : List RenderPass) (l : Level) : Type 0 where
  pub lower : height l.levels l.earlier < height levels earlier
  pub few : length l.quads + 1 < wide

-- a surface leaves nothing
abbrev pub IsNever : (Point → Colour → Colour) → Type 0
IsNever change = (q : Point) (d : Colour) → change q d ≡ d

-- a level paints a whole row of a surface that a painter shows, and is laid on the row below from
-- its first place on
pub record IsEntered (p : Painter) (i : FrameData) (first : Point) (own : List Colour) (m : Blend) (o : ℕ) (l : Level) : Type 0 where
  pub row : l.row ≡ own
  pub from : l.from ≡ 0
  pub mode : l.mode ≡ m
  pub opacity : l.opacity ≡ o
  pub start : l.start ≡ first
  pub paints : (new : List Colour) → IsPainted (rest p.active l) first own new → IsPainted (embedded p p.path i) first own new
