-- What the words of `step` ask for, and what comes of its inputs.
use Rattle.std.specs.Prelude.{◌≡◌, ℕ, pos, Some, None, Option, List}
use Rattle.vz_geom.specs.declared.Size.{Size}
use Rattle.viz_run.specs.Read.{texts}
use Rattle.viz_run.specs.Refusals.{file_refused, plan_read}
use Rattle.viz_run.specs.Schedule.{schedule_refused}
use Rattle.viz_run.specs.declared.refused.Refused.{Refused}
use Rattle.vz_rules.specs.Command.{Command, Step}
use Rattle.vz_rules.specs.Plan.{Plan}
use Rattle.vz_rules.specs.declared.entry.Event.{Event}
use Rattle.vz_rules.specs.declared.entry.Entry.{Entry}
use Rattle.vz_player.specs.Written.{Output}
use Rattle.viz_run.specs.Ends.{outputs_of}
use Rattle.viz_run.specs.Inputs.{Inputs, plan_of, events_for}
use Rattle.vz_words.specs.declared.commands.StepWords.{StepWords}

-- the command `step` with these words
abbrev pub command_of : StepWords → Command
command_of w = Step w.width w.height w.schedule.now w.frames.now w.log.now (texts w.files.now)

-- the size of the display
abbrev pub size_of : StepWords → Size
size_of w = record { w = pos w.width; h = pos w.height }

-- the first of these inputs that is refused
abbrev pub refused_of : Size → List (List ℕ) → List ℕ → Option Refused
refused_of size files schedule =
    elim (file_refused files) [ Some r ↦ Some r | None ↦ schedule_refused (plan_read size files) schedule ]

-- the inputs of the command give this plan and these events
abbrev pub Makes : Command → Inputs → Plan → List Event → Type 0
Makes c i p events = (p ≡ plan_of c i) × (events ≡ events_for c i)

-- what the command writes for a history of a plan
abbrev pub outputs_for : StepWords → Plan → List Entry → List Output
outputs_for w p history = outputs_of (command_of w) p history
