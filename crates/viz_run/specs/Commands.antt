-- The commands that the program has, and which names they read and write.
use Rattle.std.specs.Prelude.{ℕ, List, [], ◌∷◌, ◌++◌}
use Rattle.vz_base.specs.declared.limits.TheConstants.{DEFAULT_BUFFERS}
use Rattle.vz_rules.specs.Command.{Word, Command, Run, Step, Check, Gen, Hit, Turns, IsCommand, buffer_count}

-- the words ask for a command
abbrev pub Asks : List Word → Command → Type 0
Asks words c = IsCommand words c

-- the words ask for no command
abbrev pub AsksNothing : List Word → Type 0
AsksNothing words = (c : Command) → Asks words c → ⊥

-- the names of the clients' files
abbrev pub client_names : Command → List Word
client_names (Run paced buffers pipe w h ticks frames log files) = files
client_names (Step w h schedule frames log files) = files
client_names (Check w h frames log files) = files
client_names (Hit w h schedule x y files) = files
client_names (Turns w h ticks files) = files
client_names _ = []

-- the name of the schedule, if the command has one
abbrev pub schedule_names : Command → List Word
schedule_names (Step w h schedule frames log files) = schedule ∷ []
schedule_names (Hit w h schedule x y files) = schedule ∷ []
schedule_names _ = []

-- the name of the log to judge, if there is one
abbrev pub log_names : Command → List Word
log_names (Check w h frames log files) = log ∷ []
log_names _ = []

-- the name of the frames to judge with the log
abbrev pub frame_names : Command → List Word
frame_names (Check w h frames log files) = frames ∷ []
frame_names _ = []

-- the names of the files that the command reads
abbrev pub input_names : Command → List Word
input_names c = client_names c ++ (schedule_names c ++ (log_names c ++ frame_names c))

-- the names of the files that the command writes
abbrev pub output_names : Command → List Word
output_names (Run paced buffers pipe w h ticks frames log files) = frames ∷ log ∷ []
output_names (Step w h schedule frames log files) = frames ∷ log ∷ []
output_names (Gen n first second third) = first ∷ second ∷ third ∷ []
output_names _ = []

-- how many buffers are painted in turn
abbrev pub buffers_of : Command → ℕ
buffers_of (Run paced buffers pipe w h ticks frames log files) = buffer_count buffers
buffers_of _ = DEFAULT_BUFFERS
