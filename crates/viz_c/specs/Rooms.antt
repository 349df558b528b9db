-- Rooms of a caller, before and after a call.
use Rattle.std.specs.Prelude.{◌≡◌, List, ℕ, length, take, drop}

-- a room before and after a call, and the count that is told of what belongs there
pub record Room : Type 0 where
  pub before : List ℕ
  pub after : List ℕ
  pub count : ℕ

-- the bytes are at the front of the room, and what is behind them is as before
pub record IsPut (bytes old new : List ℕ) : Type 0 where
  pub front : take (length bytes) new ≡ bytes
  pub behind : drop (length bytes) new ≡ drop (length bytes) old

-- the room has what it had
abbrev pub Keeps : List ℕ → List ℕ → Type 0
Keeps old new = new ≡ old

-- so many bytes are the length of what is at the front of the room, so that they are no more than it has
abbrev pub IsLengthIn : ℕ → List ℕ → Type 0
IsLengthIn n room = n ≡ length (take n room)

-- behind so many bytes the room has what it had
abbrev pub KeepsRest : ℕ → List ℕ → List ℕ → Type 0
KeepsRest n old new = drop n new ≡ drop n old
