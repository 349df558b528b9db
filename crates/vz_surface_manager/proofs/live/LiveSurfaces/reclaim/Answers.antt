use Rattle.std.proofs.Common.{sym, subst}
use Rattle.vz_returns.specs.Lent.{NoneReleased}
use Rattle.vz_surface_manager.specs.Live.{AreLive}
use Rattle.vz_surface_manager.proofs.{Quiet.live_like, Quiet_changes.quiet_reclaimed}
use Rattle.vz_surface_manager.proofs.live.LiveSurfaces.reclaim.Goals as goal

pub returns-clause-live : goal.returns-clause-live
returns-clause-live c w but x always live known number =
    let h = subst (AreLive w but) (sym c.self.view_is) live in
    live_like w _ but _ c.reclaim.new.self (quiet_reclaimed w x) (c.reclaim.ensures.lent w x always known number h.lent) h

pub returns-clause-released : goal.returns-clause-released
returns-clause-released c none = c.reclaim.ensures.released (subst (λ v. NoneReleased v.lent) (sym c.self.view_is) none)
