-- What a reader returns: a value and the bytes after it, that there is none, or that there is no
-- memory.
use Rattle.std.specs.Prelude.{◌≡◌, ℕ, Option, Some, None, Result, Ok, Err}
use Rattle.vz_journal.specs.declared.stop.Stop.{Stop}
use Rattle.vz_journal.specs.declared.stop.Stop.TheVariants as stops
use Rattle.vz_journal.specs.declared.stop.LogError.{LogError}
use Rattle.vz_journal.specs.declared.stop.LogError.TheVariants as errors

-- the reading has no value if the bytes do not match; want of memory says nothing about the bytes
abbrev pub Stops : {Y : Type 0} → Stop → Option Y → Type 0
Stops stops.Memory read = Unit {0}
Stops stops.Unlike read = read ≡ None

-- the function returns, in the given view, what the reading defines, unless memory runs out
abbrev pub Gives : {X Y : Type 0} → (X → Y) → Result X Stop → Option Y → Type 0
Gives view (Ok x) read = read ≡ Some (view x)
Gives view (Err e) read = Stops e read

-- the reported line is the first bad one; want of memory says nothing about the text
abbrev pub Blames : {Y : Type 0} → LogError → Result Y ℕ → Type 0
Blames errors.Memory read = Unit {0}
Blames (errors.Refused line) read = read ≡ Err line

-- a log that is returned is the one that the reading defines
abbrev pub GivesLog : {Y : Type 0} → Result Y LogError → Result Y ℕ → Type 0
GivesLog (Ok x) read = read ≡ Ok x
GivesLog (Err e) read = Blames e read
