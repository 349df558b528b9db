-- How owed feedback changes, and what always holds of it.
use Rattle.std.specs.Prelude.{◌≡◌, ℕ, ◌+◌, ◌≤◌, Bool, true, false, ◌&&◌, Option, Some, None, is_some, List, [], ◌∷◌, ◌++◌, length, if◌then◌else◌}
use Rattle.std.specs.Map.{lookup}
use Rattle.vz_ids.specs.declared.Sub.{Sub}
use Rattle.vz_ids.specs.Ids.{same_sub}
use Rattle.vz_rules.specs.declared.entry.Fed.{Fed}
use Rattle.vz_rules.specs.World.{Submission, sub_of}
use Rattle.vz_returns.specs.Unfed.{in_order, is_open}
use Rattle.vz_returns.specs.declared.ended.Ended.{Ended}
use Rattle.vz_returns.specs.declared.due.Due.{Due}
use Rattle.vz_returns.specs.Owed.{Owed, place_of, awaits}

-- the submission that gets feedback as it ends, if it is not in flight
abbrev pub dropped_by : Option Ended → Option Sub
dropped_by None = None
dropped_by (Some e) = if e.in_flight then None else Some e.sub

-- the name is this submission's
abbrev pub is_name : Option Sub → Sub → Bool
is_name None t = false
is_name (Some s) t = same_sub s t

-- the feedback for a submission: presented or dropped
abbrev pub fed_as : Bool → Sub → Fed
fed_as presented s = record { sub = s; presented = presented }

-- the feedback that is due for a submission, if it awaits feedback and has a place
abbrev pub due_at : Bool → Sub → Option ℕ → List Due
due_at presented s None = []
due_at presented s (Some n) = record { place = n; fed = fed_as presented s } ∷ []

-- the feedback that is due for this submission, if there is one
abbrev pub dues_of : Bool → Option Sub → Owed → List Due
dues_of presented None f = []
dues_of presented (Some s) f = due_at presented s (place_of f s)

-- the feedback of a submission that awaited it became due
pub record IsNoted (sub : Option Sub) (presented : Bool) (old new : Owed) : Type 0 where
  pub places : (t : Sub) → place_of new t ≡ (if is_name sub t then None else place_of old t)
  pub due : new.due ≡ old.due ++ dues_of presented sub old
  pub accepted : new.accepted ≡ old.accepted

-- one more submission awaits feedback
pub record IsAdded (sub : Sub) (old new : Owed) : Type 0 where
  pub places : (t : Sub) → place_of new t ≡ (if same_sub sub t then Some old.accepted else place_of old t)
  pub due : new.due ≡ old.due
  pub accepted : new.accepted ≡ old.accepted + 1

-- the feedback that submissions get now, with these ones added among those that await it
abbrev pub noted : (Sub → Bool) → Bool → (Submission → Option Fed) → Submission → Option Fed
noted named presented gets s = if awaits gets s && named (sub_of s) then Some (fed_as presented (sub_of s)) else gets s

-- no feedback is due any more
abbrev pub without_due : Owed → Owed
without_due f = record f { due = [] }

-- how many submissions await feedback or have it due
abbrev pub owed_count : Owed → ℕ
owed_count f = length f.unfed + length f.due

-- exactly the submissions that await feedback have places, and there is room for all of it to
-- become due
pub record AreKept (unfed : List Sub) (places : List (Sub × ℕ)) (free : ℕ) : Type 0 where
  pub sorted : in_order unfed ≡ true
  pub same : (t : Sub) → is_open unfed t ≡ is_some (lookup (same_sub t) places)
  pub count : length unfed ≡ length places
  pub room : length places ≤ free
