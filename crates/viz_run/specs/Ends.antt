-- What holds of a command that ended, and of one that was cut short.
use Rattle.std.specs.Prelude.{◌≡◌, ℕ, pos, ◌+◌, List, [], ◌∷◌, map, take}
use Rattle.vz_frame.specs.declared.message.ClientFile.{ClientFile}
use Rattle.vz_codec.specs.Spelling.{file_bytes}
use Rattle.vz_gen.specs.Make.{make}
use Rattle.vz_outside.specs.Shelved.{SameFiles}
use Rattle.vz_player.specs.Written.{Output, AreWhole, AreBegun}
use Rattle.vz_rules.specs.Plan.{Plan}
use Rattle.vz_check.specs.Verdict.{IsVerdict}
use Rattle.vz_check.specs.declared.verdict.Verdict.{Verdict}
use Rattle.viz_run.specs.Refusals.{plan_read}
use Rattle.vz_rules.specs.Command.{Word, Command, Run, Step, Check, Gen, Hit, Turns}
use Rattle.vz_rules.specs.declared.entry.Event.{Event}
use Rattle.vz_rules.specs.declared.entry.Entry.{Entry}
use Rattle.vz_rules.specs.Step.{Legal}
use Rattle.vz_rules.specs.Frames.{frames, written, painted, Honest}
use Rattle.vz_rules.specs.Log.{log_text, rest_of}
use Rattle.vz_threads.specs.Courses.{IsRun, frames_of}
use Rattle.vz_callers.specs.Turns.{IsTurns}
use Rattle.viz_run.specs.Commands.{buffers_of}
use Rattle.viz_run.specs.Inputs.{Inputs, plan_of, events_for}
use Rattle.viz_run.specs.Lines.{end_line, verdict_line, verdict_status}
use Rattle.viz_run.specs.Site.{Site}

-- the events of a history
abbrev pub events_in : List Entry → List Event
events_in h = map (λ (e : Entry). e.event) h

-- h is a legal history of exactly these events
pub record IsHistory (p : Plan) (events : List Event) (h : List Entry) : Type 0 where
  pub legal : Legal p h
  pub all : events_in h ≡ events

-- the history that a command asks for: for `run`, a legal one in which the display makes its
-- rounds, paced if that is asked, and all messages of each client are taken in time; for `turns`, a
-- legal one of the display's rounds and of as many entries of each client as its file has messages;
-- for the other commands, the legal one of exactly their events
abbrev pub IsAsked : Command → Inputs → List Entry → Type 0
IsAsked (Run paced buffers pipe w h ticks frames log files) i history =
    IsRun (plan_read (record { w = pos w; h = pos h }) i.files) ticks paced history
IsAsked (Turns w h ticks files) i history = IsTurns (plan_read (record { w = pos w; h = pos h }) i.files) ticks history
IsAsked c i history = IsHistory (plan_of c i) (events_for c i) history

-- a part of such a history: for `run` and `turns`, a legal history; for the others, a legal history
-- of a front part of their events
abbrev pub IsPart : Command → Inputs → List Entry → Type 0
IsPart (Run paced buffers pipe w h ticks frames log files) i history =
    Legal (plan_read (record { w = pos w; h = pos h }) i.files) history
IsPart (Turns w h ticks files) i history = Legal (plan_read (record { w = pos w; h = pos h }) i.files) history
IsPart c i history = (n : ℕ) × IsHistory (plan_of c i) (take n (events_for c i)) history

-- the text of a history and of what is outstanding after it
abbrev pub log_of : Plan → List Entry → List ℕ
log_of p h = log_text h (rest_of p h)

-- these files with these names
abbrev pub named_files : List Word → List ClientFile → List Output
named_files (name ∷ names) (file ∷ files) = record { name = name; bytes = file_bytes file } ∷ named_files names files
named_files _ _ = []

-- the frames of a history with so many buffers, and its log, with these names
abbrev pub frames_and_log : Word → Word → Plan → List Entry → ℕ → List Output
frames_and_log frames log p history buffers =
    record { name = frames; bytes = frames_of p history buffers } ∷ record { name = log; bytes = log_of p history } ∷ []

-- what a command writes for a history of a plan
abbrev pub outputs_of : Command → Plan → List Entry → List Output
outputs_of (Run paced buffers pipe w h ticks frames log files) p history =
    frames_and_log frames log p history (buffers_of (Run paced buffers pipe w h ticks frames log files))
outputs_of (Step w h schedule frames log files) p history =
    frames_and_log frames log p history (buffers_of (Step w h schedule frames log files))
outputs_of (Gen n first second third) p history = named_files (first ∷ second ∷ third ∷ []) (make n)
outputs_of _ p history = []

-- how many points a command paints for a history of a plan; `hit` and `turns` paint none
abbrev pub points_of : Command → Plan → List Entry → ℕ
points_of (Hit w h schedule x y files) p history = 0
points_of (Turns w h ticks files) p history = 0
points_of c p history = painted p history (buffers_of c)

-- this is the right verdict on a log and its frames
abbrev pub IsSaid : Plan → List (List ℕ) → List (List ℕ) → Verdict → Type 0
IsSaid p (log ∷ []) (frames ∷ []) verdict = IsVerdict p log frames verdict
IsSaid p _ _ verdict = ⊥

-- this line and this status report how the command ended: with the verdict, or that it was done
abbrev pub TellsEnd : Command → Inputs → List Entry → List ℕ → ℕ → Type 0
TellsEnd (Check w h frames log files) i history line status =
    (verdict : Verdict) × IsSaid (plan_read (record { w = pos w; h = pos h }) i.files) i.logs i.frames verdict
    × (line ≡ verdict_line verdict) × (status ≡ verdict_status verdict)
TellsEnd c i history line status = (line ≡ end_line c (plan_of c i) history) × (status ≡ 0)

-- all the command's work is done: a history that it asks for happened, its outputs are written,
-- each painted point is counted, and if every client's damage covers what it changed, each written
-- frame is the whole picture
pub record IsDone (c : Command) (i : Inputs) (h : List Entry) (before after : Site) : Type 0 where
  pub history : IsAsked c i h
  pub outputs : AreWhole (outputs_of c (plan_of c i) h) after.shelf
  pub counted : after.steps ≡ before.steps + points_of c (plan_of c i) h
  pub whole : Honest (plan_of c i) h → written (plan_of c i) h (buffers_of c) ≡ frames (plan_of c i) h

-- the work was cut short: a part of such a history happened, and the files have a front part of
-- what that history writes
pub record IsCutShort (c : Command) (i : Inputs) (h : List Entry) (before after : Site) : Type 0 where
  pub history : IsPart c i h
  pub outputs : AreBegun (outputs_of c (plan_of c i) h) before.shelf after.shelf

-- no work was begun: the history is empty, every name keeps its bytes, and no step is counted
pub record IsUnbegun (h : List Entry) (before after : Site) : Type 0 where
  pub history : h ≡ []
  pub files : SameFiles before.shelf after.shelf
  pub steps : after.steps ≡ before.steps
