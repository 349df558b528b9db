-- A frame is drawn: its submissions come to hold their resources, one after the other.
use Rattle.std.specs.Prelude.{◌≡◌, ℕ, Option, Some, None, List, [], IsTrue, IsFalse, is_some, slice_get, take}
use Rattle.std.specs.List.{Contains}
use Rattle.vz_geom.specs.declared.Size.{Size}
use Rattle.vz_ids.specs.declared.SurfaceId.{SurfaceId}
use Rattle.vz_rules.specs.declared.entry.Reply.TheVariants as reply
use Rattle.vz_rules.specs.Plan.{Plan, IsPlan}
use Rattle.vz_rules.specs.World.{World, Submission, has_sub, is_active, sub_of}
use Rattle.vz_rules.specs.Messages.{says}
use Rattle.vz_rules.specs.Step.{draw_answer}
use Rattle.vz_rules.specs.Kept.{Keeps, KeepsAlways, KeepsPlan}
use Rattle.vz_surfaces.specs.Reading.{active_on}
use Rattle.vz_damage.specs.Measured.{Measurement, IsMeasureOf}
use Rattle.vz_surface_manager.specs.Allowed.{Draws, drawn_reply}
use Rattle.vz_returns.specs.Lent.{Lent, AreLent, NoneReleased}
use Rattle.vz_surface_manager.specs.Flown.{Flown, subs_of}
use Rattle.vz_surface_manager.specs.Rosters.{flown_from}
use Rattle.vz_surface_manager.specs.Live.{Live, AreLive, AreWhole}
use Rattle.vz_surface_manager.specs.declared.drawn_frame.Look.{Look}
use Rattle.vz_surface_manager.specs.declared.drawn_frame.Look.TheVariants as look

-- between steps, a root is to be drawn on a display of this size, and all released references were
-- given back
pub record IsDrawing (p : Plan) (w : World) (root : Option SurfaceId) (size : Size) (v : Live) : Type 0 where
  pub plan : IsPlan p
  pub keeps : Keeps w
  pub of_plan : KeepsPlan p w
  pub live : AreLive w None v
  pub rooted : w.root ≡ root
  pub sized_as : p.size ≡ size
  pub none_released : NoneReleased v.lent

-- the same, and the drawing walks from the root
pub record IsShowing (p : Plan) (w : World) (root : SurfaceId) (size : Size) (v : Live) : Type 0 where
  pub drawing : IsDrawing p w (Some root) size v
  pub walks : Draws p w root

-- no frame is in flight, and this root shows something
pub record IsSeen (p : Plan) (w : World) (root : SurfaceId) (size : Size) (v : Live) : Type 0 where
  pub drawing : IsDrawing p w (Some root) size v
  pub free : IsFalse (is_some v.flight)
  pub there : IsTrue (is_some (active_on v.store root))

-- what a look says of the drawing beforehand: it has this reply and does not change the state, or
-- this root shows something
abbrev pub Foretells : Plan → World → Option SurfaceId → Size → Live → Look → Type 0
Foretells p w root size v look.Busy = draw_answer p w ≡ says reply.Busy w
Foretells p w root size v look.NoRoot = draw_answer p w ≡ says reply.NoRoot w
Foretells p w root size v (look.Seen id) = (root ≡ Some id) × IsSeen p w id size v

-- what a walk from a root says of the drawing beforehand: it is too much, which does not change
-- the state, or the drawing walks and its reply is what changed
abbrev pub Finds : Plan → World → SurfaceId → Size → Live → Option (Measurement × List Flown) → Type 0
Finds p w root size v None = draw_answer p w ≡ says reply.TooMuch w
Finds p w root size v (Some found) = IsShowing p w root size v × (drawn_reply found.0.changed ≡ (draw_answer p w).reply)

-- this is measured on the surfaces from a root, on a display of this size, before the measurement
-- is remembered
abbrev pub Measures : SurfaceId → Size → Live → Measurement → Type 0
Measures root size v m = IsMeasureOf v.damaged v.store root size m

-- these submissions are drawn from a root, with what they list
abbrev pub Flies : SurfaceId → Size → Live → List Flown → Type 0
Flies root size v flown = flown ≡ flown_from size root v.store

-- each of these is an active submission of a state, with what it lists
abbrev pub AreActive : World → List Flown → Type 0
AreActive w roster = (f : Flown) → Contains roster f
    → (s : Submission) × Contains w.subs s × IsTrue (is_active s) × (sub_of s ≡ f.0) × (s.submitted.frame.resources ≡ f.1)

-- these active submissions are to be drawn, each once, and none of them holds anything in the
-- drawn frame yet
pub record IsLifting (p : Plan) (w : World) (roster : List Flown) (lenders : List Lent) : Type 0 where
  pub plan : IsPlan p
  pub always : KeepsAlways w
  pub of_plan : KeepsPlan p w
  pub whole : AreWhole w.subs
  pub listed : AreActive w roster
  pub before : (k : ℕ) (f : Flown) → slice_get roster k ≡ Some f → IsFalse (has_sub (subs_of (take k roster)) f.0)
  pub none_released : NoneReleased lenders
  pub lent : AreLent (record w { in_flight = Some [] }) lenders
