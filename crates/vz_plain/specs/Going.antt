-- A level whose quads are painted one after another, up to one that begins another level.
use Rattle.std.specs.Prelude.{◌≡◌, ◌<◌, ◌≤◌, ◌+◌, Option, Some, None, List, [], ◌∷◌, ◌++◌, length}
use Rattle.std.specs.Option.{option_to_list}
use Rattle.vz_pixels.specs.Colour.{Colour}
use Rattle.vz_rules.specs.World.{FrameData}
use Rattle.vz_plain.specs.Levels.{Level, quads_left, row_now, row_under, EndsAs}
use Rattle.vz_plain.specs.Work.{work}

-- a level, and one that is painted first, have less work left than before
abbrev pub IsLess : Level → Level → Option Level → Type 0
IsLess old new None = work new ≤ work old
IsLess old new (Some c) = work c + work new < work old

-- quads of a level were painted, and then another level may be painted first: what that ends as,
-- all of it ends as
pub record GoesOn (active : List FrameData) (old new : Level) (o : Option Level) : Type 0 where
  pub same : new ≡ row_now (quads_left old new.quads) new.row
  pub long : length new.row ≡ length old.row
  pub ends : (base : List Colour) (below : List Level) (last : List Colour)
      → EndsAs active base (option_to_list o ++ (new ∷ below)) (row_under base (option_to_list o ++ (new ∷ below))) last
      → EndsAs active base (old ∷ below) old.row last
  pub less : IsLess old new o

-- a level stopped: no quads are left, or another level is painted first, for which its row has all
-- places
abbrev pub IsStopped : Level → Option Level → Type 0
IsStopped l None = l.quads ≡ []
IsStopped l (Some c) = c.from + length c.row ≤ length l.row
