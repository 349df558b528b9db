use Rattle.std.proofs.Common.{sym, subst}
use Rattle.vz_surface_manager.specs.Live.{AreLive}
use Rattle.vz_surface_manager.proofs.{Quiet.live_like, Quiet_changes.quiet_given}
use Rattle.vz_surface_manager.proofs.live.LiveSurfaces.give_back.Goals as goal

pub returns-clause-live : goal.returns-clause-live
returns-clause-live c w but always x =
    let h = subst (AreLive w but) (sym c.self.view_is) x in
    live_like w _ but _ c.give_back.new.self (quiet_given w) (c.give_back.ensures.lent w always h.lent) h
