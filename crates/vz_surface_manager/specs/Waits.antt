-- The submissions that wait to become active.
use Rattle.std.specs.Prelude.{◌≡◌, ℕ, Bool, not, ◌&&◌, ◌||◌, Option, List, map, filter, find}
use Rattle.std.specs.Option.{option_map}
use Rattle.vz_ids.specs.declared.LocalSurfaceId.{LocalSurfaceId}
use Rattle.vz_ids.specs.declared.SurfaceId.{SurfaceId}
use Rattle.vz_ids.specs.declared.Sub.{Sub}
use Rattle.vz_frame.specs.declared.frame.CompositorFrame.{CompositorFrame}
use Rattle.vz_rules.specs.World.{World, Client, is_waiting, is_on, sub_of}
use Rattle.vz_rules.specs.Settle.{is_met, is_ready}
use Rattle.vz_rules.specs.Messages.{new_submission, id_of}
use Rattle.vz_deps.specs.Tracking.{Blocked, is_blocked}
use Rattle.vz_deps.specs.Blocking.{blocked_by}
use Rattle.vz_deadlines.specs.declared.due.Due.{Due}
use Rattle.vz_deadlines.specs.Timing.{waits, due_of}
use Rattle.vz_surface_manager.specs.declared.arrival.Arrival.{Arrival}

-- the waiting submissions, in the order of acceptance: the unmet dependencies of each, and its
-- deadline
pub record Waits : Type 0 where
  pub blocked : List Blocked
  pub due : List Due
  -- there is room for one more submission with fewer unmet dependencies than this
  pub spare : ℕ

-- these are the waiting submissions of a state, without those that are ready
pub record AreWaiting (w : World) (a : Waits) : Type 0 where
  pub blocked : a.blocked ≡ blocked_by (is_met w) (filter (λ s. not (is_ready w s)) w.subs)
  pub due : a.due ≡ map due_of (filter (λ s. is_waiting s && not (is_ready w s)) w.subs)

-- the submission is one of these
abbrev pub is_among : Waits → Sub → Bool
is_among a s = is_blocked a.blocked s || waits a.due s

-- the waiting submission on a surface, if there is one
unfoldable pub waiting_on : World → SurfaceId → Option Sub
waiting_on w id = option_map (λ s. sub_of s) (find (λ s. is_waiting s && is_on id s) w.subs)

-- the arrival of a client's submission: its name, its deadline, the one that waits on its surface,
-- the current tick, and its unmet dependencies
pub record Tells (w : World) (c : Client) (local : LocalSurfaceId) (frame : CompositorFrame) (a : Arrival) (now : ℕ)
    (lacks : List SurfaceId) : Type 0 where
  pub sub : a.sub ≡ sub_of (new_submission w c local frame)
  pub due : a.due ≡ (new_submission w c local frame).due
  pub replaced : a.replaced ≡ waiting_on w (id_of c local)
  pub tick : now ≡ w.tick
  pub lacked : lacks ≡ filter (λ d. not (is_met w d)) frame.metadata.dependencies
