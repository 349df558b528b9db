-- Which submissions of the machine's state are blocked.
use Rattle.std.specs.Prelude.{Bool, not, ◌&&◌, List, map, filter}
use Rattle.std.specs.List.{list_all}
use Rattle.vz_ids.specs.declared.SurfaceId.{SurfaceId}
use Rattle.vz_rules.specs.World.{Submission, is_waiting, sub_of}
use Rattle.vz_deps.specs.Tracking.{Blocked}

-- the dependencies of a submission's frame
abbrev pub dependencies_of : Submission → List SurfaceId
dependencies_of s = s.submitted.frame.metadata.dependencies

-- the submission waits, and some dependency of it is not met
abbrev pub lacks_in : (SurfaceId → Bool) → Submission → Bool
lacks_in met s = is_waiting s && not (list_all met (dependencies_of s))

-- a submission with its unmet dependencies
abbrev pub blocked_of : (SurfaceId → Bool) → Submission → Blocked
blocked_of met s = record { sub = sub_of s; unmet = filter (λ d. not (met d)) (dependencies_of s) }

-- the submissions that are blocked if exactly these dependencies are met
unfoldable pub blocked_by : (SurfaceId → Bool) → List Submission → List Blocked
blocked_by met subs = map (blocked_of met) (filter (lacks_in met) subs)
