-- What a command reads that takes the events of a schedule, and what this gives.
use Rattle.std.specs.Prelude.{◌≡◌, Option, None, List, [], ◌∷◌}
use Rattle.std.specs.List.{flat_map}
use Rattle.vz_base.specs.declared.limits.TheConstants.{MOST_FILE_BYTES, MOST_EVENTS, MOST_LOG_BYTES}
use Rattle.vz_geom.specs.declared.Size.{Size}
use Rattle.viz_run.specs.Read.{AreReadUpto, texts}
use Rattle.viz_run.specs.Refusals.{file_refused, plan_read}
use Rattle.viz_run.specs.Schedule.{events_of}
use Rattle.viz_run.specs.declared.refused.Refused.{Refused}
use Rattle.vz_outside.specs.Shelved.{Shelved}
use Rattle.vz_rules.specs.Command.{Word, Command, Hit}
use Rattle.vz_rules.specs.Plan.{Plan}
use Rattle.vz_rules.specs.declared.entry.Event.{Event}
use Rattle.viz_run.specs.Inputs.{Inputs, AreHeld, first_some, schedules_refused, logs_refused}
use Rattle.vz_words.specs.declared.commands.HitWords.{HitWords}

-- the command `hit` with these words
abbrev pub command_of : HitWords → Command
command_of w = Hit w.width w.height w.schedule.now w.x w.y (texts w.files.now)

-- the clients' files and the schedule were read, and nothing else
pub record AreTaken (shelf : Shelved) (schedule : Word) (names : List Word) (i : Inputs) : Type 0 where
  pub files : AreReadUpto MOST_FILE_BYTES names i.files shelf
  pub schedules : AreReadUpto MOST_EVENTS (schedule ∷ []) i.schedules shelf
  pub logs : AreReadUpto MOST_LOG_BYTES [] i.logs shelf
  pub frames : AreHeld [] i.frames shelf

-- the first of these inputs that is refused, for a display of this size
abbrev pub refused_among : Size → Inputs → Option Refused
refused_among size i = first_some (file_refused i.files) (first_some (schedules_refused (plan_read size i.files) i.schedules) (logs_refused i.logs))

-- the clients' files and the schedule were read, none is refused, and they give this plan and
-- these events
pub record AreGiven (shelf : Shelved) (size : Size) (schedule : Word) (names : List Word) (i : Inputs) (p : Plan) (es : List Event) : Type 0 where
  pub read : AreTaken shelf schedule names i
  pub good : refused_among size i ≡ None
  pub plan : p ≡ plan_read size i.files
  pub events : es ≡ flat_map events_of i.schedules
