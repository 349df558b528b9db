use Rattle.std.proofs.Common.{sym, subst}
use Rattle.vz_surface_manager.specs.Live.{AreLive}
use Rattle.vz_surface_manager.proofs.Asked.{last_asked}
use Rattle.vz_surface_manager.proofs.live.LiveSurfaces.last.Goals as goal

pub returns : goal.returns
returns c =
    record {
      last = λ w but live.
          last_asked w but _ c.args.client c.last.result (subst (AreLive w but) (sym c.self.view_is) live) c.last.ensures;
    }
