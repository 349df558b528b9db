-- Submissions that are blocked by dependencies.
use Rattle.std.specs.Prelude.{ℕ, Bool, not, List, map, filter}
use Rattle.std.specs.List.{list_any, list_all}
use Rattle.vz_ids.specs.declared.FrameSinkId.{FrameSinkId}
use Rattle.vz_ids.specs.declared.SurfaceId.{SurfaceId}
use Rattle.vz_ids.specs.declared.Sub.{Sub}
use Rattle.vz_ids.specs.Ids.{same_sub, same_sink, at_least}

-- a submission and its unmet dependencies
pub record Blocked : Type 0 where
  pub sub : Sub
  pub unmet : List SurfaceId

-- the blocked submissions, in the order in which they were blocked, with reserved room
pub record Tracked : Type 0 where
  pub list : List Blocked
  pub spare : ℕ

-- a submission is blocked
unfoldable pub is_blocked : List Blocked → Sub → Bool
is_blocked list s = list_any (λ b. same_sub b.sub s) list

-- all except this submission
unfoldable pub without : Sub → List Blocked → List Blocked
without s list = filter (λ b. not (same_sub b.sub s)) list

-- the submissions whose unmet dependencies are now all met
unfoldable pub freed : (SurfaceId → Bool) → List Blocked → List Sub
freed met list = map (λ b. b.sub) (filter (λ b. list_all met b.unmet) list)

-- a submission without the dependencies that are met now
abbrev pub lacking : (SurfaceId → Bool) → Blocked → Blocked
lacking met b = record { sub = b.sub; unmet = filter (λ d. not (met d)) b.unmet }

-- the submissions that stay blocked, with what they still lack
unfoldable pub still : (SurfaceId → Bool) → List Blocked → List Blocked
still met list = map (lacking met) (filter (λ b. not (list_all met b.unmet)) list)

-- the surface meets the dependency: it is in the dependency's group, and is the same or newer
abbrev pub meets : SurfaceId → SurfaceId → Bool
meets id d = at_least id d

-- one of these surfaces meets the dependency
abbrev pub meets_any : List SurfaceId → SurfaceId → Bool
meets_any ids d = list_any (λ id. meets id d) ids

-- the dependency is on a surface of this sink
abbrev pub is_of_sink : FrameSinkId → SurfaceId → Bool
is_of_sink sink d = same_sink d.sink sink

-- submissions by their numbers, with the unmet dependencies of each
unfoldable pub listed : (ℕ → List SurfaceId) → List (ℕ × Sub) → List Blocked
listed unmet subs = map (λ e. record { sub = e.1; unmet = unmet e.0 }) subs
