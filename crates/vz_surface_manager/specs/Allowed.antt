-- Which submissions are accepted, and which drawings walk through what can be seen.
use Rattle.std.specs.Prelude.{◌≡◌, is_some, IsFalse, Option, Some, None}
use Rattle.std.specs.List.{Contains}
use Rattle.vz_geom.specs.Rectangle.{Rectangle}
use Rattle.vz_ids.specs.declared.LocalSurfaceId.{LocalSurfaceId}
use Rattle.vz_ids.specs.declared.SurfaceId.{SurfaceId}
use Rattle.vz_frame.specs.declared.frame.CompositorFrame.{CompositorFrame}
use Rattle.vz_rules.specs.Plan.{Plan}
use Rattle.vz_rules.specs.declared.entry.Reply.{Reply}
use Rattle.vz_rules.specs.declared.entry.Reply.TheVariants.{Drawn, Unchanged}
use Rattle.vz_rules.specs.World.{World, Client, last_created}
use Rattle.vz_rules.specs.Scene.{scene_of}
use Rattle.vz_rules.specs.Walk.{walk_of, too_much}
use Rattle.vz_rules.specs.Messages.{submit_refusal}
use Rattle.vz_damage.specs.Accepted.{scene_from}

-- a client that has not closed submits a frame, which is not refused
pub record IsAllowed (w : World) (c : Client) (local : LocalSurfaceId) (frame : CompositorFrame) : Type 0 where
  pub known : Contains w.clients c
  pub stays : IsFalse c.closed
  pub allowed : submit_refusal (last_created w c.number) c.resources local frame ≡ None

-- a drawing walks from this root: no frame is in flight, the root shows something, and the walk is
-- not too much
pub record Draws (p : Plan) (w : World) (root : SurfaceId) : Type 0 where
  pub free : IsFalse (is_some w.in_flight)
  pub seen : scene_of w ≡ Some (scene_from root w)
  pub fits : IsFalse (too_much (walk_of p.size (scene_from root w)))

-- the reply to a drawing that walked, by what changed
abbrev pub drawn_reply : Option Rectangle → Reply
drawn_reply None = Unchanged
drawn_reply (Some damage) = Drawn damage
