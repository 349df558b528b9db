-- The picture of a drawing, made from flat operations.
use Rattle.std.specs.Prelude.{◌≡◌, true, Option, Some, List}
use Rattle.std.specs.Option.{option_map}
use Rattle.vz_geom.specs.declared.Point.{Point}
use Rattle.vz_geom.specs.declared.Size.{Size}
use Rattle.vz_geom.specs.Rectangle.{has, sized}
use Rattle.vz_pixels.specs.Colour.{black}
use Rattle.vz_rules.specs.declared.entry.Reply.{Reply}
use Rattle.vz_rules.specs.Plan.{Plan, IsPlan}
use Rattle.vz_rules.specs.World.{World, Scene}
use Rattle.vz_rules.specs.Scene.{scene_of}
use Rattle.vz_rules.specs.Paint.{full}
use Rattle.vz_rules.specs.Step.{draw_answer}
use Rattle.vz_machine.specs.Stepping.{ShowsDrawn}
use Rattle.vz_flat.specs.declared.op.Op.{Op}
use Rattle.vz_flat.specs.Ops.{value}
use Rattle.vz_occlude.specs.Pictures.{Flattened, flat_picture}

-- the state shows something, and at each point of the plan's display the operations give its
-- colour
pub record LookLike (p : Plan) (w : World) (ops : List Op) : Type 0 where
  pub scene : Scene
  pub seen : scene_of w ≡ Some scene
  pub colours : (q : Point) → has (sized p.size) q ≡ true → value ops q black ≡ full scene q

-- a drawing of a state gets this reply, on the plan's display, which has this size
pub record IsAnswered (p : Plan) (w : World) (size : Size) (reply : Reply) : Type 0 where
  pub plan : IsPlan p
  pub sized_as : p.size ≡ size
  pub reply_is : reply ≡ (draw_answer p w).reply

-- there is a picture exactly if the reply is Drawn; it shows what the state shows, and its changed
-- rectangle is the damage
abbrev pub IsPainted : Plan → World → Reply → Option Flattened → Type 0
IsPainted p w reply painted = ShowsDrawn (record { plan = p; world = w }) reply (option_map flat_picture painted)
