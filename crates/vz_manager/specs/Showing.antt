-- A drawing that walks, seen from the parts of the machine.
use Rattle.vz_ids.specs.declared.SurfaceId.{SurfaceId}
use Rattle.vz_rules.specs.Plan.{Plan}
use Rattle.vz_rules.specs.World.{World}
use Rattle.vz_surface_manager.specs.Drawn_frame.{IsSeen, IsShowing}
use Rattle.vz_manager.specs.Serving.{Served, Serves}

-- the parts represent a state, and this root shows something
pub record IsToMeasure (p : Plan) (w : World) (root : SurfaceId) (v : Served) : Type 0 where
  pub serves : Serves p w v
  pub seen : IsSeen p w root v.size v.settling.live

-- the parts represent a state, and a drawing walks from this root on the display
pub record IsToShow (p : Plan) (w : World) (root : SurfaceId) (v : Served) : Type 0 where
  pub serves : Serves p w v
  pub shows : IsShowing p w root v.size v.settling.live
