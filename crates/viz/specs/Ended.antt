-- What the number says that the process ends with.
use Rattle.std.specs.Prelude.{◌≡◌, ◌≢◌, ◌≤◌, ◌⊎◌, ℕ, List}
use Rattle.vz_rules.specs.Command.{Word}
use Rattle.vz_rules.specs.declared.entry.Entry.{Entry}
use Rattle.viz_run.specs.Commands.{AsksNothing}
use Rattle.viz_run.specs.Causes.{EndsWell, RefusesWords, RefusesInput, LeavesFront, PrintsFront}
use Rattle.viz_run.specs.Site.{Outside, CountsNoFault, CountsOneFault}

-- of this history, the status of a call with these words says what became of it: all was done (0), and a fault of a log
-- was found (1); the words were refused (2), or an input (3); a device had a fault (4), or an allocation failed (5)
pub record EndsWith (words : List Word) (status : ℕ) (before after : Outside) : Type 0 where
  pub history : List Entry
  pub range : status ≤ 5
  pub ends : status ≤ 1 → EndsWell words status history before after
  pub refuses_words : status ≡ 2 → RefusesWords words history before after
  pub no_other : AsksNothing words → (status ≡ 2) ⊎ (4 ≤ status)
  pub refuses_input : status ≡ 3 → RefusesInput words history before after
  pub fault : status ≡ 4 → CountsOneFault before after
  pub quiet : status ≢ 4 → CountsNoFault before after
  pub printed : 4 ≤ status → PrintsFront words history before after
  pub front : 4 ≤ status → LeavesFront words history before.site after.site
