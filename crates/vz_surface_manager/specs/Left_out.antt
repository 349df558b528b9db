-- Lists from which some submissions are removed.
use Rattle.std.specs.Prelude.{not, List, filter}
use Rattle.vz_ids.specs.declared.Sub.{Sub}
use Rattle.vz_rules.specs.World.{has_sub}
use Rattle.vz_deps.specs.Tracking.{Blocked}
use Rattle.vz_deadlines.specs.declared.due.Due.{Due}

-- the blocked submissions without these
unfoldable pub blocked_without : List Sub → List Blocked → List Blocked
blocked_without gone list = filter (λ b. not (has_sub gone b.sub)) list

-- the deadlines without those of these submissions
unfoldable pub due_without : List Sub → List Due → List Due
due_without gone list = filter (λ d. not (has_sub gone d.sub)) list
