-- What the display does after the last message: begin-frames while some submission waits, and a
-- last drawing.
use Rattle.std.specs.Prelude.{◌≡◌, ℕ, ◌-◌, ◌<◌, ◌≤◌, IsTrue, IsFalse, List, ◌++◌, length, take, get_or}
use Rattle.std.specs.List.{Contains}
use Rattle.vz_base.specs.declared.limits.TheConstants.{LAST_TICK}
use Rattle.vz_rules.specs.Plan.{Plan, message_counts}
use Rattle.vz_rules.specs.declared.entry.Entry.{Entry}
use Rattle.vz_rules.specs.World.{World, Submission, is_waiting}
use Rattle.vz_rules.specs.Step.{world}
use Rattle.vz_rules.specs.Course.{AreBegins, IsShow, some_waits}
use Rattle.vz_rules.specs.Whole.{mine}
use Rattle.vz_rules.specs.Accounts.{takes}
use Rattle.vz_player.specs.Played.{Played}

-- these begin-frames follow a history, and before each of them some submission waits
pub record AreAwaited (p : Plan) (h begins : List Entry) : Type 0 where
  pub are_begins : AreBegins begins
  pub wait : (n : ℕ) → n < length begins → IsTrue (some_waits (world p (h ++ take n begins)))

-- the tail of a history: such begin-frames, until none waits, and a last drawing
pub record IsTail (p : Plan) (h begins last : List Entry) : Type 0 where
  pub begun : AreAwaited p h begins
  pub none_waits : IsFalse (some_waits (world p (h ++ begins)))
  pub is_show : IsShow last

-- the player's history has the tail in addition
pub record AddsTail (old new : Played) : Type 0 where
  pub begins : List Entry
  pub last : List Entry
  pub grown : new ≡ record old { history = old.history ++ (begins ++ last) }
  pub tail : IsTail old.plan old.history begins last

-- the player's history has one more drawing
pub record AddsShow (old new : Played) : Type 0 where
  pub last : List Entry
  pub grown : new ≡ record old { history = old.history ++ last }
  pub is_show : IsShow last

-- the player's history continues the old one
pub record GoesOn (old new : Played) : Type 0 where
  pub more : List Entry
  pub history : new.history ≡ old.history ++ more
  pub plan : new.plan ≡ old.plan
  pub buffers : new.buffers ≡ old.buffers

-- the deadline of each waiting submission is a tick that can come
abbrev pub AllComeDue : World → Type 0
AllComeDue w = (s : Submission) → Contains w.subs s → IsTrue (is_waiting s) → s.due ≤ LAST_TICK

-- each of the client's entries takes a message, and together they take all of its messages
pub record TookAll (p : Plan) (h : List Entry) (c : ℕ) : Type 0 where
  pub each : length (mine h c) ≡ length (takes h c)
  pub all : length (takes h c) ≡ get_or (message_counts p) (c - 1) 0
