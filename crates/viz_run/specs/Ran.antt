-- What the words of `run` ask for.
use Rattle.std.specs.Prelude.{ℕ, pos, List, map, length}
use Rattle.vz_frame.specs.declared.message.ClientFile.{ClientFile}
use Rattle.vz_geom.specs.declared.Size.{Size}
use Rattle.viz_run.specs.Read.{texts}
use Rattle.vz_player.specs.Written.{Output}
use Rattle.vz_rules.specs.Command.{Command, Run}
use Rattle.vz_rules.specs.Plan.{Plan}
use Rattle.vz_rules.specs.declared.entry.Entry.{Entry}
use Rattle.viz_run.specs.Ends.{outputs_of}
use Rattle.vz_words.specs.declared.commands.RunWords.{RunWords}

-- the command `run` with these words
abbrev pub command_of : RunWords → Command
command_of w = Run w.paced w.buffers w.pipe w.width w.height w.ticks w.frames.now w.log.now (texts w.files.now)

-- the size of the display
abbrev pub size_of : RunWords → Size
size_of w = record { w = pos w.width; h = pos w.height }

-- what the command writes for a history of a plan
abbrev pub outputs_for : RunWords → Plan → List Entry → List Output
outputs_for w p history = outputs_of (command_of w) p history

-- how many messages each of these files has
abbrev pub counts_of : List ClientFile → List ℕ
counts_of files = map (λ (file : ClientFile). length file.messages) files
