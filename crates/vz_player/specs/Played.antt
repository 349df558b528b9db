-- The state of a player.
use Rattle.std.specs.Prelude.{◌≡◌, ℕ, ◌+◌, ◌-◌, ◌^◌, ◌<◌, ◌≤◌, Bool, true, false, Option, Some, None, ◌⊎◌, List, [], ◌∷◌, ◌++◌, length, min, ◌==◌, count_by, get_or}
use Rattle.std.specs.Option.{option_map}
use Rattle.vz_base.specs.declared.limits.TheConstants.{MOST_FILES}
use Rattle.vz_geom.specs.Display.{IsDisplaySize}
use Rattle.vz_pixels.specs.Colour.{Colour}
use Rattle.vz_rules.specs.Plan.{Plan}
use Rattle.vz_rules.specs.World.{Machine}
use Rattle.vz_rules.specs.declared.entry.Event.{Event}
use Rattle.vz_rules.specs.declared.entry.Event.TheVariants as event
use Rattle.vz_rules.specs.declared.entry.Entry.{Entry}
use Rattle.vz_rules.specs.Step.{entry_in, world, Legal}
use Rattle.vz_rules.specs.Frames.{written, painted}
use Rattle.vz_machine.specs.Pictured.{Pictured}
use Rattle.vz_display.specs.Displayed.{Displayed, display_at, shown, steps_for}

-- the plan, the history so far, how many buffers the display has, and whether want of memory kept
-- the last drawing from the display
pub record Played : Type 0 where
  pub plan : Plan
  pub history : List Entry
  pub buffers : ℕ
  pub stopped : Bool

-- the player after this history, with enough memory throughout
abbrev pub played_at : Plan → List Entry → ℕ → Played
played_at p h count = record { plan = p; history = h; buffers = count; stopped = false }

-- the player before its first event
abbrev pub first_played : Plan → ℕ → Played
first_played p count = record { plan = p; history = []; buffers = count; stopped = false }

-- the machine with this plan, in the world after the history
abbrev pub machine_of : Played → Machine
machine_of p = record { plan = p.plan; world = world p.plan p.history }

-- the entry that an event would make next
abbrev pub next_entry : Played → Event → Entry
next_entry p e = entry_in p.plan (world p.plan p.history) e

-- the player after an event: its history has one more entry
unfoldable pub played_on : Played → Event → Played
played_on p e = record p { history = p.history ++ next_entry p e ∷ [] }

-- the frames that the player has written
abbrev pub frames_of : Played → List (List Colour)
frames_of p = written p.plan p.history p.buffers

-- the number of points that the player has painted
abbrev pub painted_by : Played → ℕ
painted_by p = painted p.plan p.history p.buffers

-- the player's display
abbrev pub display_of : Played → Displayed
display_of p = display_at p.plan p.history p.buffers

-- one more frame is written, or none
abbrev pub Writes : Played → Played → Bool → Type 0
Writes old new true = (frame : List Colour) × (frames_of new ≡ frames_of old ++ frame ∷ [])
Writes old new false = frames_of new ≡ frames_of old

-- memory ran out before the step, which changed nothing, or after it
unfoldable pub StopsAt : Played → Event → Played → Type 0
StopsAt old e new = (new ≡ old) ⊎ (new ≡ record (played_on old e) { stopped = true })

-- what always holds of a player: its machine is in the world after the history, the history is
-- legal, and unless the player was stopped, the display shows that history
pub record IsPlayed (m : Machine) (d : Displayed) (p : Played) : Type 0 where
  pub behind : m ≡ machine_of p
  pub legal : Legal p.plan p.history
  pub files : length p.plan.files ≤ MOST_FILES
  pub sides : IsDisplaySize p.plan.size
  pub some : 1 ≤ p.buffers
  pub shows : p.stopped ≡ false → d ≡ display_of p

-- the display after one more picture, if there is one
abbrev pub shown_with : Displayed → Option Pictured → Displayed
shown_with d None = d
shown_with d (Some p) = shown d p

-- the steps for showing that picture
abbrev pub steps_with : Displayed → Option Pictured → ℕ
steps_with d None = 0
steps_with d (Some p) = steps_for d p.changed

-- a display shows this picture, if there is one
abbrev pub Shows : {P : Type 0} → (P → Pictured) → Option P → Displayed → Displayed → Type 0
Shows pictured picture old new = new ≡ shown_with old (option_map pictured picture)

-- the steps of before, with those for showing it
abbrev pub Costs : {P : Type 0} → (P → Pictured) → Option P → Displayed → ℕ → ℕ → Type 0
Costs pictured picture old before after = after ≡ before + steps_with old (option_map pictured picture)

-- the next number, which stays at the greatest one of 64 bits
abbrev pub next_number : ℕ → ℕ
next_number n = min (n + 1) (2 ^ 64 - 1)

-- who takes the step of an event: the display, which is 0, or a client
abbrev pub actor_in : Event → ℕ
actor_in (event.Client c) = c
actor_in _ = 0

-- the event is one of the display, other than Draw
abbrev pub is_plain : Event → Bool
is_plain event.Begin = true
is_plain event.Done = true
is_plain event.Over = true
is_plain _ = false

-- the entry is a step of this actor
abbrev pub is_step_of : ℕ → Entry → Bool
is_step_of actor e = actor_in e.event == actor

-- how many of these entries are steps of this actor
abbrev pub entries_by : List Entry → ℕ → ℕ
entries_by h actor = count_by (is_step_of actor) h

-- the same number, at most the greatest one of 64 bits
abbrev pub steps_of : List Entry → ℕ → ℕ
steps_of h actor = min (entries_by h actor) (2 ^ 64 - 1)

-- these are the steps of so many actors in these entries
pub record HasCounted (most : ℕ) (h : List Entry) (taken : List ℕ) : Type 0 where
  pub all : length taken ≡ most
  pub each : (actor : ℕ) → actor < most → get_or taken actor 0 ≡ steps_of h actor
