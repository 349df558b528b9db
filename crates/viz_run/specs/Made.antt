-- What the words of `gen` ask for.
use Rattle.vz_rules.specs.Command.{Command, Gen}
use Rattle.vz_words.specs.declared.commands.MakeWords.{MakeWords}

-- the command `gen` with these words
abbrev pub command_of : MakeWords → Command
command_of w = Gen w.rounds w.first.now w.second.now w.third.now
