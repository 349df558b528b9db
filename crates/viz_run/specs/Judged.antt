-- What the words of `check` ask for.
use Rattle.std.specs.Prelude.{ℕ, Option, List, [], ◌∷◌}
use Rattle.viz_run.specs.Read.{texts}
use Rattle.viz_run.specs.Refusals.{file_refused}
use Rattle.viz_run.specs.declared.refused.Refused.{Refused}
use Rattle.vz_rules.specs.Command.{Command, Check}
use Rattle.viz_run.specs.Inputs.{first_some, logs_refused}
use Rattle.vz_words.specs.declared.commands.CheckWords.{CheckWords}

-- the command `check` with these words
abbrev pub command_of : CheckWords → Command
command_of w = Check w.width w.height w.frames.now w.log.now (texts w.files.now)

-- the first of these inputs that is refused
abbrev pub refused_of : List (List ℕ) → List ℕ → Option Refused
refused_of files log = first_some (file_refused files) (logs_refused (log ∷ []))
