-- What reading a log returns.
use Rattle.std.specs.Prelude.{◌≡◌, ℕ, IsTrue, Option, Some, None, Result, Ok, Err, List, ◌++◌, length, drop}
use Rattle.vz_journal.specs.declared.stop.LogError.{LogError}
use Rattle.vz_journal.specs.declared.stop.LogError.TheVariants as errors
use Rattle.vz_rules.specs.declared.entry.Entry.{Entry}
use Rattle.vz_rules.specs.declared.entry.Rest.{Rest}
use Rattle.vz_rules.specs.Log.{Spellable, entry_text, log_text, has_text_entry, BeginsWith, IsFirstBadLine}

-- the text is the log of a history and a rest
abbrev pub IsLog : List ℕ → List Entry → Rest → Type 0
IsLog bytes h rest = Spellable h rest × (bytes ≡ log_text h rest)

-- the history and the rest that the text spells, or its first bad line; want of memory says
-- nothing about the text
abbrev pub IsReading : List ℕ → Result (List Entry × Rest) LogError → Type 0
IsReading bytes (Ok x) = IsLog bytes x.0 x.1
IsReading bytes (Err errors.Memory) = Unit {0}
IsReading bytes (Err (errors.Refused line)) = IsFirstBadLine bytes line

-- the result is this history and this rest, unless memory runs out
abbrev pub Finds : Result (List Entry × Rest) LogError → List Entry → Rest → Type 0
Finds (Ok x) h rest = x ≡ (h, rest)
Finds (Err errors.Memory) h rest = Unit {0}
Finds (Err (errors.Refused line)) h rest = ⊥

-- the text begins with the line of this entry, which has so many bytes, or with no entry's line
abbrev pub IsFirstEntry : List ℕ → Option (Entry × ℕ) → Type 0
IsFirstEntry text (Some x) =
    IsTrue (has_text_entry x.0) × (x.1 ≡ length (entry_text x.0)) × (text ≡ entry_text x.0 ++ drop x.1 text)
IsFirstEntry text None = (e : Entry) → IsTrue (has_text_entry e) → BeginsWith text (entry_text e) → ⊥
