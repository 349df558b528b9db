use Rattle.std.proofs.Common.{sym, subst}
use Rattle.vz_surface_manager.specs.{Live.Live, Drawn_frame.IsShowing, Drawn_frame.Measures}
use Rattle.vz_surface_manager.proofs.Drawn.{live_unchanged}
use Rattle.vz_surface_manager.proofs.live.LiveSurfaces.leave.Goals as goal

pub returns-clause-live : goal.returns-clause-live
returns-clause-live c p w root size x is none =
    let h = subst (IsShowing p w root size) (sym c.self.view_is) x in
    let m = subst (λ (v : Live). Measures root size v c.args.measured) (sym c.self.view_is) is in
    live_unchanged p w root size _ h c.args.measured c.remember.new.self m none c.remember.ensures.last c.remember.ensures.told
