-- The surfaces of the machine with all that depends on them, and when they represent a state.
use Rattle.std.specs.Prelude.{◌≡◌, ℕ, ◌+◌, ◌≤◌, Option, List, length, if◌then◌else◌}
use Rattle.std.specs.List.{Contains, sum_by}
use Rattle.vz_ids.specs.declared.SurfaceId.{SurfaceId}
use Rattle.vz_rules.specs.World.{World, Submission, is_waiting}
use Rattle.vz_rules.specs.Kept.{IsWhole}
use Rattle.vz_refs.specs.Referring.{Referring}
use Rattle.vz_surface_manager.specs.Kept_surfaces.{AreKept}
use Rattle.vz_surfaces.specs.Stored.{Stored, stored_of}
use Rattle.vz_damage.specs.Told.{Damaged}
use Rattle.vz_surface_manager.specs.Told_damage.{AreTold}
use Rattle.vz_returns.specs.Lent.{Lent, AreLent}
use Rattle.vz_returns.specs.Owed.{OwedAndRoom, AreOwed}
use Rattle.vz_surface_manager.specs.Flown.{Flown, AreFlown}

-- the surfaces and submissions, what clients lent, the owed feedback, references and temporary
-- surfaces, the damages, the drawn frame, and how many places among the references the waiting
-- submissions need once they become active
pub record Live : Type 0 where
  pub store : Stored
  pub lent : List Lent
  pub owed : OwedAndRoom
  pub kept : Referring
  pub damaged : Damaged
  pub flight : Option (List Flown)
  pub wanted : ℕ

-- a waiting submission needs a place for its surface, and one for each of its references
abbrev pub wants : Submission → ℕ
wants s = if is_waiting s then length s.submitted.frame.metadata.references + 1 else 0

-- accepted frames break no rule
abbrev pub AreWhole : List Submission → Type 0
AreWhole subs = (s : Submission) → Contains subs s → IsWhole s.submitted

-- each part represents the state, and there is room for every waiting submission to become active;
-- the temporary surfaces are those of the state, except for a new one that is yet to be kept
pub record AreLive (w : World) (but : Option SurfaceId) (v : Live) : Type 0 where
  pub store : v.store ≡ stored_of w
  pub whole : AreWhole w.subs
  pub lent : AreLent w v.lent
  pub owed : AreOwed w v.owed.owed
  pub kept : AreKept w but v.kept
  pub told : AreTold w v.damaged
  pub flown : AreFlown w v.flight
  pub wanted : v.wanted ≡ sum_by wants w.subs
  pub room : v.wanted ≤ v.kept.spare
