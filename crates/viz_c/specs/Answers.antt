-- What a call answers: the number of each cause. 1 to 7 are the rules of a message file (`rule_number` of Numbers).
use Rattle.std.specs.Prelude.{ℕ}

-- all that the call asks for was done
abbrev pub DONE : ℕ
DONE = 0

-- an allocation failed
abbrev pub MEMORY : ℕ
MEMORY = 8

-- a number of the call is out of its range, the lengths do not fill the bytes, or the session is not as the call needs it
abbrev pub CALL : ℕ
CALL = 9

-- a room is too small
abbrev pub ROOM : ℕ
ROOM = 10

-- an input is refused
abbrev pub REFUSED : ℕ
REFUSED = 11

-- a log or its frames have a fault
abbrev pub FAULT : ℕ
FAULT = 12

-- nothing is there to tell
abbrev pub NOTHING : ℕ
NOTHING = 13
