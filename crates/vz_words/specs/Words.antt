-- The words of the command line, and how the first of them are read.
use Rattle.std.specs.Prelude.{ℕ, ◌≡◌, ◌+◌, Bool, true, false, not, is_some, ◌==◌, ◌&&◌, nat_le, IsTrue, List, map, codes, [], ◌∷◌, ◌++◌, Option}
use Rattle.std.specs.Fmt.{decimal}
use Rattle.std.specs.declared.string.String.{String}
use Rattle.std.specs.String.{string_bytes}
use Rattle.vz_base.specs.declared.limits.TheConstants.{MOST_TICKS}
use Rattle.vz_rules.specs.Command.{Word, Command, Run, Step, Check, Gen, Demo, Hit, Turns, flag_words, buffer_words, buffers_fit, same_text, are_sides, frames_fit}
use Rattle.vz_words.specs.declared.commands.Command.{Command as Asked}
use Rattle.vz_words.specs.declared.commands.Command.TheVariants as asked

-- words as the lists of their bytes
abbrev pub texts : {A : Type 0} → List (String A) → List Word
texts words = map string_bytes words

-- a text begins neither with a plus nor with a zero before other bytes
abbrev pub is_plain : List ℕ → Bool
is_plain [] = true
is_plain (c ∷ []) = not (c == 43)
is_plain (c ∷ d ∷ cs) = not (c == 43) && not (c == 48)

-- the first of the words is this one
abbrev pub begins : Word → List Word → Bool
begins name [] = false
begins name (word ∷ words) = same_text word name

-- the words begin with this option, which has no value, or they do not; and these words follow
abbrev pub IsFlag : (name : Word) (words : List Word) (given : Bool) (rest : List Word) → Type 0
IsFlag name words given rest = (words ≡ flag_words name given ++ rest) × (given ≡ begins name words)

-- the words begin with the option for the number of buffers, or they do not; and these words
-- follow
abbrev pub IsBuffers : (words : List Word) (buffers : Option ℕ) (rest : List Word) → Type 0
IsBuffers words buffers rest =
    (words ≡ buffer_words buffers ++ rest) × (is_some buffers ≡ begins (codes "--buffers") words) × IsTrue (buffers_fit buffers)

-- the words begin with the sides of a display, and these words follow
abbrev pub IsDisplay : (words : List Word) (w h : ℕ) (rest : List Word) → Type 0
IsDisplay words w h rest = (words ≡ decimal w ∷ decimal h ∷ rest) × IsTrue (are_sides w h)

-- there are at most so many ticks as the limit, and the frames of all their drawings and of a last
-- one fit
abbrev pub ticks_fit : ℕ → ℕ → ℕ → Bool
ticks_fit w h ticks = nat_le ticks MOST_TICKS && frames_fit w h (ticks + 1)

-- the words begin with the sides of a display and the ticks, and these words follow
abbrev pub IsTimed : (words : List Word) (w h ticks : ℕ) (rest : List Word) → Type 0
IsTimed words w h ticks rest =
    (words ≡ decimal w ∷ decimal h ∷ decimal ticks ∷ rest) × IsTrue (are_sides w h) × IsTrue (ticks_fit w h ticks)

-- the command of the definitions for a command of the code
abbrev pub command_of : Asked → Command
command_of (asked.Run w) = Run w.paced w.buffers w.pipe w.width w.height w.ticks w.frames.now w.log.now (texts w.files.now)
command_of (asked.Step w) = Step w.width w.height w.schedule.now w.frames.now w.log.now (texts w.files.now)
command_of (asked.Check w) = Check w.width w.height w.frames.now w.log.now (texts w.files.now)
command_of (asked.Gen w) = Gen w.rounds w.first.now w.second.now w.third.now
command_of (asked.Demo rounds) = Demo rounds
command_of (asked.Hit w) = Hit w.width w.height w.schedule.now w.x w.y (texts w.files.now)
command_of (asked.Turns w) = Turns w.width w.height w.ticks (texts w.files.now)
