-- What the calls of a hub mean for passes.
use Rattle.std.specs.Prelude.{◌≡◌, ℕ, List, [], ◌∷◌, ◌++◌, length, Some, All}
use mathlib.Core.List.{IsPrefix}
use Rattle.vz_loans.specs.Rule.{Log, places}
use Rattle.vz_loans.specs.Tokens.{Caller, mine, numbered, IsClosedBy}
use Rattle.vz_rules.specs.Plan.{Plan}
use Rattle.vz_rules.specs.declared.entry.Event.{Event}
use Rattle.vz_rules.specs.declared.entry.Entry.{Entry}
use Rattle.vz_rules.specs.Step.{entry_in, world, Legal}
use Rattle.vz_turn.specs.declared.brief.Told.{Told}
use Rattle.vz_turn.specs.Briefs.{brief_in}
use Rattle.vz_turn.specs.Registers.{entries_of}

-- a call made one entry, of this event. What the caller had seen is a front part of the entries
-- before it; it is the last that the caller has seen now, with the caller's number, and its
-- place is added to the caller's own. The entries that the caller has seen are legal. The call
-- reports the place, and the brief of the reply
pub record Makes (old new : Caller Plan Entry) (e : Event) (told : Told) : Type 0 where
  pub plan : Plan
  pub before : Log Entry
  pub made : Entry
  pub planned : new.plan ≡ Some plan
  pub later : IsPrefix old.seen before
  pub entry : made ≡ entry_in plan (world plan (entries_of before)) e
  pub seen : new.seen ≡ before ++ (old.number, made) ∷ []
  pub legal : Legal plan (entries_of new.seen)
  pub place : told.place ≡ length new.seen
  pub reply : told.reply ≡ brief_in made.reply
  pub mine : mine new ≡ mine old ++ told.place ∷ []

-- a call made no entry: what the caller had seen is a front part of what it has seen now, and
-- its own places are the same
pub record MakesNone (old new : Caller Plan Entry) : Type 0 where
  pub later : IsPrefix old.seen new.seen
  pub mine : mine new ≡ mine old

-- the history is the entries of a log. Each pass has this plan, what its caller has seen is a
-- front part of the log, and the caller's places in the log are the same as in what it has
-- seen. No entry has a number that no pass has
pub record IsClosed (plan : Plan) (history : List Entry) (passes : List (Caller Plan Entry)) : Type 0 where
  pub log : Log Entry
  pub entries : entries_of log ≡ history
  pub closed : All (IsClosedBy plan log) passes
  pub others : (n : ℕ) → numbered n passes ≡ 0 → places n log ≡ []
