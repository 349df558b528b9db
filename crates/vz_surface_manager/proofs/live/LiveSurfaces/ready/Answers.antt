use Rattle.std.proofs.Common.{sym, subst}
use Rattle.vz_returns.specs.Lent.{NoneReleased}
use Rattle.vz_surface_manager.proofs.live.LiveSurfaces.ready.Goals as goal

pub returns-in_err-ready-clause-released : goal.returns-in_err-ready-clause-released
returns-in_err-ready-clause-released c none = c.ready.ensures.released (subst (λ v. NoneReleased v.lent) (sym c.self.view_is) none)

pub returns-in_err-ready-2-clause-released : goal.returns-in_err-ready-2-clause-released
returns-in_err-ready-2-clause-released c none = c.ready.ensures.released (subst (λ v. NoneReleased v.lent) (sym c.self.view_is) none)

pub returns-in_err-ready-3-clause-released : goal.returns-in_err-ready-3-clause-released
returns-in_err-ready-3-clause-released c none = c.ready.ensures.released (subst (λ v. NoneReleased v.lent) (sym c.self.view_is) none)

pub returns-in_err-ready_to_keep-clause-released : goal.returns-in_err-ready_to_keep-clause-released
returns-in_err-ready_to_keep-clause-released c none = c.ready.ensures.released (subst (λ v. NoneReleased v.lent) (sym c.self.view_is) none)

pub returns-clause-released : goal.returns-clause-released
returns-clause-released c none = c.ready.ensures.released (subst (λ v. NoneReleased v.lent) (sym c.self.view_is) none)
