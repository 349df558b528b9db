-- The state of a hit tester.
use Rattle.std.specs.Prelude.{◌≡◌, ◌≤◌, List, [], ◌∷◌, ◌++◌, length}
use Rattle.vz_base.specs.declared.limits.TheConstants.{MOST_FILES}
use Rattle.vz_geom.specs.declared.Point.{Point}
use Rattle.vz_rules.specs.Plan.{Plan}
use Rattle.vz_rules.specs.World.{Machine}
use Rattle.vz_rules.specs.declared.entry.Event.{Event}
use Rattle.vz_rules.specs.declared.entry.Entry.{Entry}
use Rattle.vz_rules.specs.declared.entry.Reply.{Reply}
use Rattle.vz_rules.specs.declared.entry.Reply.TheVariants.{Drawn}
use Rattle.vz_rules.specs.Hit.{Target}
use Rattle.vz_rules.specs.Step.{entry_in, world, Legal}
use Rattle.vz_rules.specs.Whole.{hit_last}
use Rattle.vz_machine.specs.Stepping.{IsOnDisplay}

-- the plan, the history so far, and the point that is asked about
pub record Tested : Type 0 where
  pub plan : Plan
  pub history : List Entry
  pub point : Point

-- the hit tester before its first event
abbrev pub first_tested : Plan → Point → Tested
first_tested p q = record { plan = p; history = []; point = q }

-- the hit tester after an event: its history has one more entry
unfoldable pub tested_on : Tested → Event → Tested
tested_on t e = record t { history = t.history ++ entry_in t.plan (world t.plan t.history) e ∷ [] }

-- what is hit at the last drawing after an entry with this reply, by what is hit in the scene at
-- that entry and what was hit before it
abbrev pub hit_then : Target → Reply → Target → Target
hit_then now (Drawn damage) before = now
hit_then now _ before = before

-- what always holds of a hit tester: its machine is in the world after the history, the history
-- is legal, the point is on the display, and it has noted what is hit at the last drawing
pub record IsTested (m : Machine) (noted : Target) (t : Tested) : Type 0 where
  pub behind : m ≡ record { plan = t.plan; world = world t.plan t.history }
  pub legal : Legal t.plan t.history
  pub files : length t.plan.files ≤ MOST_FILES
  pub on : IsOnDisplay m t.point
  pub is : noted ≡ hit_last t.plan t.history t.point
