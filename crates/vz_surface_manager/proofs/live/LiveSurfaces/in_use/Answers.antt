use Rattle.std.proofs.Common.{sym, subst}
use Rattle.vz_returns.specs.Lent.{NoneReleased}
use Rattle.vz_surface_manager.specs.Live.{AreLive}
use Rattle.vz_surface_manager.proofs.live.LiveSurfaces.in_use.Goals as goal

pub returns : goal.returns
returns c w but x always live known number none =
    let h = subst (AreLive w but) (sym c.self.view_is) live in
    c.in_use.ensures w x always known number (subst (λ v. NoneReleased v.lent) (sym c.self.view_is) none) h.lent
