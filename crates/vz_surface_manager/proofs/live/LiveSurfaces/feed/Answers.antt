use Rattle.std.proofs.Common.{sym, subst}
use Rattle.vz_surface_manager.specs.Live.{AreLive}
use Rattle.vz_surface_manager.proofs.Given.{live_fed}
use Rattle.vz_surface_manager.proofs.live.LiveSurfaces.feed.Goals as goal

pub returns-clause-live : goal.returns-clause-live
returns-clause-live c w but x =
    let h = subst (AreLive w but) (sym c.self.view_is) x in
    live_fed w but _ c.feed.new.self (c.feed.ensures.owed w h.owed) h
