-- The surfaces and what waits, while submissions become active round by round.
use Rattle.std.specs.Prelude.{◌≡◌, Option, List, map}
use Rattle.vz_ids.specs.declared.SurfaceId.{SurfaceId}
use Rattle.vz_ids.specs.declared.Sub.{Sub}
use Rattle.vz_rules.specs.World.{World, sub_of}
use Rattle.vz_rules.specs.Settle.{ready}
use Rattle.vz_rules.specs.Kept.{KeepsAlways}
use Rattle.vz_surface_manager.specs.Waits.{AreWaiting}
use Rattle.vz_surface_manager.specs.Live.{Live, AreLive}
use Rattle.vz_surface_manager.specs.declared.surface_manager.SurfaceManager.{SurfaceManager}

-- both represent a state: the surfaces, except that a new one is yet to be kept; and the
-- submissions that wait and are not ready
pub record AreSettling (w : World) (but : Option SurfaceId) (v : SurfaceManager) : Type 0 where
  pub always : KeepsAlways w
  pub live : AreLive w but v.live
  pub waiting : AreWaiting w v.waiting

-- these are the names of the ready submissions, in the order of acceptance
abbrev pub AreReady : World → List Sub → Type 0
AreReady w subs = subs ≡ map sub_of (ready w)

-- a round begins, and these submissions are ready
pub record IsRound (w : World) (but : Option SurfaceId) (subs : List Sub) (v : Live) : Type 0 where
  pub always : KeepsAlways w
  pub live : AreLive w but v
  pub ready : AreReady w subs

-- settling begins, and these submissions are ready
pub record IsToSettle (w : World) (but : Option SurfaceId) (v : SurfaceManager) (subs : List Sub) : Type 0 where
  pub stands : AreSettling w but v
  pub ready : AreReady w subs
