-- Buffers that are used in turn, and the stale rectangle of each.
use Rattle.std.specs.Prelude.{ℕ, ◌+◌, ◌-◌, ◌%◌, ◌<◌, ◌≤◌, nat_le, Option, Some, None, unwrap_or, List, [], ◌∷◌, length, map, take, replicate}
use Rattle.std.specs.Prelude.{slice_get, if◌then◌else◌}
use Rattle.std.specs.Option.{option_map}
use Rattle.vz_base.specs.declared.limits.TheConstants.{MOST_BUFFERS}
use Rattle.vz_geom.specs.declared.Size.{Size}
use Rattle.vz_geom.specs.Rectangle.{Rectangle, no_rectangle, sized, join, bound}
use Rattle.vz_geom.specs.Display.{IsDisplaySize}

-- which buffer is next, and the stale rectangle of each buffer, from the one painted last to the
-- next one; None until it is painted for the first time
pub record Turns : Type 0 where
  pub size : Size
  pub next : ℕ
  pub stales : List (Option Rectangle)

-- there are 1 to 4 buffers, and one of them is next
pub record AreTurns (t : Turns) : Type 0 where
  pub sides : IsDisplaySize t.size
  pub from : 1 ≤ length t.stales
  pub upto : length t.stales ≤ MOST_BUFFERS
  pub next : t.next < length t.stales

-- so many buffers that were never painted
abbrev pub first_turns : Size → ℕ → Turns
first_turns size count = record { size = size; next = 0; stales = replicate count None }

-- the stale rectangle of a buffer: the whole display if it was never painted
abbrev pub stale_in : Size → Option Rectangle → Rectangle
stale_in size None = sized size
stale_in size (Some r) = r

-- the stale rectangle of the next buffer
unfoldable pub stale_of : Turns → Rectangle
stale_of t = stale_in t.size (unwrap_or (slice_get t.stales (length t.stales - 1)) None)

-- the stale rectangle of each buffer grows by a damage
unfoldable pub damaged : Turns → Rectangle → Turns
damaged t r = record { size = t.size; next = t.next; stales = map (option_map (join r)) t.stales }

-- the next buffer is painted, so nothing of it is stale, and the following one is next
unfoldable pub turned : Turns → Turns
turned t =
    record {
      size = t.size;
      next = (t.next + 1) % length t.stales;
      stales = Some no_rectangle ∷ take (length t.stales - 1) t.stales;
    }

-- so many buffers after drawings with these damages, newest first, each of which painted the next
-- buffer
unfoldable pub turns_after : Size → ℕ → List Rectangle → Turns
turns_after size count [] = first_turns size count
turns_after size count (r ∷ before) = turned (damaged (turns_after size count before) r)

-- the stale rectangle of the next buffer for these damages, newest first, as the rule of the
-- display defines it
unfoldable pub stale_with : Size → ℕ → List Rectangle → Rectangle
stale_with size count damages =
    if nat_le (length damages) count then sized size else bound (take count damages)
