use Rattle.std.proofs.Common.{sym, subst}
use Rattle.vz_surface_manager.specs.Live.{AreLive}
use Rattle.vz_surface_manager.proofs.Asked.{active_asked}
use Rattle.vz_surface_manager.proofs.live.LiveSurfaces.ever_active.Goals as goal

pub returns : goal.returns
returns c =
    record {
      active = λ w but live.
          active_asked w but _ c.args.id.now c.ever_active.result (subst (AreLive w but) (sym c.self.view_is) live) c.ever_active.ensures;
    }
