-- What the words of `turns` ask for.
use Rattle.viz_run.specs.Read.{texts}
use Rattle.vz_rules.specs.Command.{Command, Turns}
use Rattle.vz_words.specs.declared.commands.TurnsWords.{TurnsWords}

-- the command `turns` with these words
abbrev pub command_of : TurnsWords → Command
command_of w = Turns w.width w.height w.ticks (texts w.files.now)
