use Rattle.std.proofs.Common.{sym, subst}
use Rattle.vz_surface_manager.specs.Live.{AreLive}
use Rattle.vz_surface_manager.proofs.live.LiveSurfaces.held.Goals as goal

pub returns : goal.returns
returns c w but always live =
    let h = subst (AreLive w but) (sym c.self.view_is) live in
    c.held.ensures w always h.lent
