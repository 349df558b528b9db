-- The damages reported for each surface, and which of them are new since the last aggregation.
use Rattle.std.specs.Prelude.{◌≡◌, ℕ, ◌+◌, ◌≤◌, Option, Some, None, List, [], ◌∷◌, ◌++◌, drop, take, length, if◌then◌else◌}
use Rattle.vz_ids.specs.declared.SurfaceId.{SurfaceId}
use Rattle.vz_ids.specs.Ids.{same_surface}
use Rattle.vz_rules.specs.World.{Aggregation}
use Rattle.vz_geom.specs.Rectangle.{Rectangle, bound, no_rectangle}

-- the damages reported for a surface, by index from 1; the index of its active submission; and the
-- index that was active at the last aggregation; an index is 0 if there is none
pub record Told : Type 0 where
  pub damages : List Rectangle
  pub active : ℕ
  pub seen : ℕ

-- the smallest rectangle round the damages after one index and up to another
unfoldable pub damage_between : ℕ → ℕ → List Rectangle → Rectangle
damage_between from upto damages = bound (drop from (take upto damages))

-- the damage on a surface since the last aggregation
abbrev pub damage_on : Told → Rectangle
damage_on t = damage_between t.seen t.active t.damages

-- two running rectangles represent the damages of a surface: one round those since the last
-- aggregation up to the active submission, and one round those after it
pub record AreRunning (shown waiting : Rectangle) (told : ℕ) (t : Told) : Type 0 where
  pub count : told ≡ length t.damages
  pub seen : t.seen ≤ t.active
  pub active : t.active ≤ told
  pub first : shown ≡ damage_on t
  pub second : waiting ≡ damage_between t.active told t.damages

-- what was reported for each surface, each surface once, with reserved room; and the root and the
-- ranges of the last aggregation, whose indices are kept with the surfaces
pub record Damaged : Type 0 where
  pub surfaces : List (SurfaceId × Told)
  pub spare : ℕ
  pub last : Option Aggregation

-- what was reported for a surface, if anything was
unfoldable pub told_on : List (SurfaceId × Told) → SurfaceId → Option Told
told_on [] id = None
told_on (x ∷ xs) id = if same_surface id x.0 then Some x.1 else told_on xs id

-- the index of the next submission on a surface
abbrev pub next_index : Option Told → ℕ
next_index None = 1
next_index (Some t) = length t.damages + 1

-- one more damage is reported
abbrev pub with_damage : Option Told → Rectangle → Told
with_damage None r = record { damages = r ∷ []; active = 0; seen = 0 }
with_damage (Some t) r = record t { damages = t.damages ++ r ∷ [] }

-- the last reported submission becomes the active one
abbrev pub with_active : Told → Told
with_active t = record t { active = length t.damages }

-- the active submission was seen by an aggregation
abbrev pub with_seen : Told → Told
with_seen t = record t { seen = t.active }

-- the damage on a surface since the last aggregation; it is empty if nothing was reported for the
-- surface
abbrev pub damage_in : Option Told → Rectangle
damage_in None = no_rectangle
damage_in (Some t) = damage_on t
