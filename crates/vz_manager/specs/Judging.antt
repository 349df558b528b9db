-- The tests of a client's submission before anything changes.
use Rattle.std.specs.Prelude.{ℕ, Option, None, unwrap_or, [], ◌∷◌}
use Rattle.vz_base.specs.declared.limits.TheConstants.{DEFAULT_DEADLINE}
use Rattle.vz_geom.specs.declared.Size.{Size}
use Rattle.vz_ids.specs.declared.LocalSurfaceId.{LocalSurfaceId}
use Rattle.vz_frame.specs.declared.frame.CompositorFrame.{CompositorFrame}
use Rattle.vz_rules.specs.declared.entry.Refusal.{Refusal}
use Rattle.vz_rules.specs.declared.entry.Refusal.TheVariants as refusal
use Rattle.vz_rules.specs.Plan.{Plan}
use Rattle.vz_rules.specs.World.{World, Client, last_created}
use Rattle.vz_rules.specs.Messages.{first_some, when, submit_refusal}
use Rattle.vz_rules.specs.Kept.{KeepsAlways}
use Rattle.vz_surface_manager.specs.Live.{Live, AreLive}
use Rattle.vz_surface_manager.specs.Last_surface.{NameAndSize, violates_named, has_other_size_named}
use Rattle.vz_support.specs.Supporting.{Supported, IsSupport}

-- why a frame with this local id and size is refused, by the local id and the size of its client's
-- last surface; None if it is not refused
abbrev pub shape_refusal : Option NameAndSize → LocalSurfaceId → Size → Option Refusal
shape_refusal last local size =
    first_some (
    when (violates_named last local) refusal.InvariantsViolation
    ∷ when (has_other_size_named last local size) refusal.SizeMismatch ∷ []
    )

-- why a client's submission is refused; None if it is not
abbrev pub refusal_in : World → Client → LocalSurfaceId → CompositorFrame → Option Refusal
refusal_in w x local frame = submit_refusal (last_created w x.number) x.resources local frame

-- after how many begin-frames a frame becomes active at the latest
abbrev pub deadline_of : CompositorFrame → ℕ
deadline_of frame = unwrap_or frame.metadata.deadline DEFAULT_DEADLINE

-- what is kept for the clients, and the surfaces, represent a state of a plan
pub record AreAsked (p : Plan) (w : World) (v : Supported) (l : Live) : Type 0 where
  pub always : KeepsAlways w
  pub support : IsSupport p w v
  pub live : AreLive w None l
