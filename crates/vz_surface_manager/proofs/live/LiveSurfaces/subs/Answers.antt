use Rattle.std.proofs.Common.{sym, subst}
use Rattle.vz_surface_manager.specs.Live.{AreLive}
use Rattle.vz_surface_manager.proofs.live.LiveSurfaces.subs.Goals as goal

pub returns : goal.returns
returns c w but keeps live =
    let h = subst (AreLive w but) (sym c.self.view_is) live in
    c.subs.ensures.rest w keeps h.owed
