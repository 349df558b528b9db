-- The inputs of a command as it read them, and the plan and the events that they give.
use Rattle.std.specs.Prelude.{◌≡◌, ℕ, pos, nat_lt, Option, Some, None, List, [], ◌∷◌, length, if◌then◌else◌}
use Rattle.std.specs.List.{flat_map}
use Rattle.vz_base.specs.declared.limits.TheConstants.{MOST_FILE_BYTES, MOST_EVENTS, MOST_LOG_BYTES}
use Rattle.vz_outside.specs.Shelved.{Shelved, Holds}
use Rattle.vz_rules.specs.Plan.{Plan}
use Rattle.vz_rules.specs.Command.{Word, Command, Run, Step, Check, Gen, Demo, Hit, Turns}
use Rattle.vz_rules.specs.declared.entry.Event.{Event}
use Rattle.viz_run.specs.Read.{AreReadUpto}
use Rattle.viz_run.specs.Refusals.{file_refused, plan_read}
use Rattle.viz_run.specs.Schedule.{events_of, schedule_refused}
use Rattle.viz_run.specs.declared.refused.Reason.TheVariants.{Long}
use Rattle.viz_run.specs.declared.refused.Refused.{Refused}
use Rattle.viz_run.specs.Commands.{client_names, schedule_names, log_names, frame_names}
use Rattle.viz_run.specs.Planned.{demo_plan}
use Rattle.viz_run.specs.Demo.{demo_events}

-- the bytes of the clients' files, of the schedule if the command has one, and of the log and the
-- frames if it judges them
pub record Inputs : Type 0 where
  pub files : List (List ℕ)
  pub schedules : List (List ℕ)
  pub logs : List (List ℕ)
  pub frames : List (List ℕ)

-- a command that reads nothing
abbrev pub no_inputs : Inputs
no_inputs = record { files = []; schedules = []; logs = []; frames = [] }

-- each of these names has these bytes on the shelf
abbrev pub AreHeld : List Word → List (List ℕ) → Shelved → Type 0
AreHeld [] [] s = Unit {0}
AreHeld (name ∷ names) (bytes ∷ more) s = Holds bytes name s × AreHeld names more s
AreHeld _ _ s = ⊥

-- each input was read to its end, or to one byte above its limit; frames are read while they are
-- judged, at any length
pub record AreRead (shelf : Shelved) (c : Command) (i : Inputs) : Type 0 where
  pub files : AreReadUpto MOST_FILE_BYTES (client_names c) i.files shelf
  pub schedules : AreReadUpto MOST_EVENTS (schedule_names c) i.schedules shelf
  pub logs : AreReadUpto MOST_LOG_BYTES (log_names c) i.logs shelf
  pub frames : AreHeld (frame_names c) i.frames shelf

-- the plan: the files that were read, or the files made by rule, and the size of the display
abbrev pub plan_of : Command → Inputs → Plan
plan_of (Run paced buffers pipe w h ticks frames log files) i = plan_read (record { w = pos w; h = pos h }) i.files
plan_of (Step w h schedule frames log files) i = plan_read (record { w = pos w; h = pos h }) i.files
plan_of (Check w h frames log files) i = plan_read (record { w = pos w; h = pos h }) i.files
plan_of (Gen n first second third) i = demo_plan n
plan_of (Demo n) i = demo_plan n
plan_of (Hit w h schedule x y files) i = plan_read (record { w = pos w; h = pos h }) i.files
plan_of (Turns w h ticks files) i = plan_read (record { w = pos w; h = pos h }) i.files

-- the events: those of the schedule, or of the demonstration; the events of clients on threads are
-- not known beforehand
abbrev pub events_for : Command → Inputs → List Event
events_for (Step w h schedule frames log files) i = flat_map events_of i.schedules
events_for (Demo n) i = demo_events n
events_for (Hit w h schedule x y files) i = flat_map events_of i.schedules
events_for _ i = []

-- the first of these schedules that is refused
abbrev pub schedules_refused : Plan → List (List ℕ) → Option Refused
schedules_refused p [] = None
schedules_refused p (bytes ∷ more) = elim (schedule_refused p bytes) [ Some r ↦ Some r | None ↦ schedules_refused p more ]

-- the first of these logs that is too long
abbrev pub logs_refused : List (List ℕ) → Option Refused
logs_refused [] = None
logs_refused (bytes ∷ more) =
    if nat_lt MOST_LOG_BYTES (length bytes) then Some (record { file = 0; at = MOST_LOG_BYTES; reason = Long }) else logs_refused more

-- the first of two refusals, if it exists, and otherwise the second
abbrev pub first_some : Option Refused → Option Refused → Option Refused
first_some (Some r) later = Some r
first_some None later = later

-- the first input that is refused: the command tests the clients' files in order, then the
-- schedule, then the log
abbrev pub first_refused : Command → Inputs → Option Refused
first_refused c i = first_some (file_refused i.files) (first_some (schedules_refused (plan_of c i) i.schedules) (logs_refused i.logs))

-- the command read these inputs, and none of them is refused
pub record AreAccepted (shelf : Shelved) (c : Command) (i : Inputs) : Type 0 where
  pub read : AreRead shelf c i
  pub good : first_refused c i ≡ None

-- the command read these inputs, and this one is the first that is refused
pub record AreRefused (shelf : Shelved) (c : Command) (i : Inputs) (r : Refused) : Type 0 where
  pub read : AreRead shelf c i
  pub first : first_refused c i ≡ Some r
