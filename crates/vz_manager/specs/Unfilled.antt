-- The parts of the machine before the first step, but for what is kept for the clients.
use Rattle.std.specs.Prelude.{◌≡◌, ℕ, None, [], length}
use Rattle.vz_geom.specs.declared.Size.{Size}
use Rattle.vz_rules.specs.Plan.{Plan, IsPlan}
use Rattle.vz_rules.specs.World.{opening}
use Rattle.vz_returns.specs.Lent.{NoneReleased}
use Rattle.vz_surface_manager.specs.Settles.{AreSettling}
use Rattle.vz_manager.specs.Serving.{Served}

-- a display of this size with so many clients, before the first step of whichever plan has them
pub record IsUnfilled (s : Size) (n : ℕ) (v : Served) : Type 0 where
  pub size : v.size ≡ s
  pub settling : (p : Plan) → IsPlan p → length p.files ≡ n → AreSettling (opening p) None v.settling
  pub released : NoneReleased v.settling.live.lent
  pub returned : v.returned.list ≡ []
  pub fed : v.fed.list ≡ []
