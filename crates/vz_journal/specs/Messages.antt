-- The texts of errors of reading a log.
use Rattle.std.specs.Prelude.{ℕ, List, codes, ◌++◌}
use Rattle.std.specs.Fmt.{decimal}
use Rattle.vz_journal.specs.declared.stop.LogError.{LogError}
use Rattle.vz_journal.specs.declared.stop.LogError.TheVariants.{Refused, Memory}

-- the text of an error, in UTF-8: the line, or that memory ran out
abbrev pub error_text : LogError → List ℕ
error_text (Refused line) = codes "line " ++ (decimal line ++ codes " of the log is refused")
error_text Memory = codes "out of memory"
