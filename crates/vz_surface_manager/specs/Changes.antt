-- The changes of the machine's state that affect surfaces.
use Rattle.std.specs.Prelude.{◌≡◌, false, Option, None, IsTrue, IsFalse}
use Rattle.std.specs.List.{Contains}
use Rattle.vz_ids.specs.declared.SurfaceId.{SurfaceId}
use Rattle.vz_ids.specs.declared.Sub.{Sub}
use Rattle.vz_rules.specs.World.{World, Surface, Submission, is_waiting, sub_of}
use Rattle.vz_rules.specs.Reach.{naming, has_closed, is_named_now}
use Rattle.vz_rules.specs.Kept.{KeepsAlways}
use Rattle.vz_surface_manager.specs.Kept_surfaces.{has_kept}
use Rattle.vz_surface_manager.specs.Live.{Live, AreLive}

-- the submission with this name waits, and becomes active
pub record IsRising (w : World) (but : Option SurfaceId) (s : Submission) (sub : Sub) (v : Live) : Type 0 where
  pub always : KeepsAlways w
  pub live : AreLive w but v
  pub known : Contains w.subs s
  pub waits : IsTrue (is_waiting s)
  pub name : sub_of s ≡ sub

-- the surface with this id exists, is not temporary, and is destroyed, after naming
pub record IsGoing (w : World) (c : Surface) (id : SurfaceId) (v : Live) : Type 0 where
  pub always : KeepsAlways w
  pub live : AreLive w None v
  pub named : naming w ≡ w
  pub known : Contains w.surfaces c
  pub name : c.id ≡ id
  pub exists : IsFalse c.destroyed
  pub lasts_not : has_kept v.kept.temporary id ≡ false

-- the surface with this id was created in this tick by a client that is not closed, and exists;
-- naming has happened, and this surface is named only if it is named now
pub record IsNew (w : World) (c : Surface) (id : SurfaceId) : Type 0 where
  pub named : naming w ≡ w
  pub known : Contains w.surfaces c
  pub name : c.id ≡ id
  pub born : c.born ≡ w.tick
  pub exists : IsFalse c.destroyed
  pub stays : IsFalse (has_closed w c.client)
  pub now : IsTrue c.named → IsTrue (is_named_now w c.id)
