-- The drawn frame is done: its submissions release their resources, one after the other.
use Rattle.std.specs.Prelude.{◌≡◌, ℕ, ◌+◌, Option, Some, None, List, IsFalse, drop, length, slice_get}
use Rattle.std.specs.List.{Contains}
use Rattle.vz_ids.specs.declared.Sub.{Sub}
use Rattle.vz_rules.specs.World.{World, Submission, has_sub, sub_of}
use Rattle.vz_rules.specs.Kept.{Keeps, KeepsAlways}
use Rattle.vz_returns.specs.Lent.{Lent, AreLent}
use Rattle.vz_surface_manager.specs.Flown.{Flown, subs_of}
use Rattle.vz_surface_manager.specs.Live.{Live, AreLive, AreWhole}

-- between steps, a frame of these submissions is in flight
pub record IsFlying (w : World) (drawn : List Sub) (v : Live) : Type 0 where
  pub keeps : Keeps w
  pub live : AreLive w None v
  pub flies : w.in_flight ≡ Some drawn

-- how many submissions are in the drawn frame; 0 if there is no such frame
abbrev pub flying_count : Option (List Flown) → ℕ
flying_count None = 0
flying_count (Some flown) = length flown

-- each of these is a submission of a state, with what it lists
abbrev pub AreSubmitted : World → List Flown → Type 0
AreSubmitted w roster = (f : Flown) → Contains roster f
    → (s : Submission) × Contains w.subs s × (sub_of s ≡ f.0) × (s.submitted.frame.resources ≡ f.1)

-- these submissions, each once, hold what they list in the drawn frame
pub record IsLanding (w : World) (roster : List Flown) (lenders : List Lent) : Type 0 where
  pub always : KeepsAlways w
  pub whole : AreWhole w.subs
  pub listed : AreSubmitted w roster
  pub behind : (k : ℕ) (f : Flown) → slice_get roster k ≡ Some f → IsFalse (has_sub (subs_of (drop (k + 1) roster)) f.0)
  pub lent : AreLent (record w { in_flight = Some (subs_of roster) }) lenders
