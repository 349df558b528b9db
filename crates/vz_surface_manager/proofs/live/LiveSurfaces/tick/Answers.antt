use Rattle.std.proofs.Common.{◌≤◌, length, sym, subst}
use Rattle.vz_surface_manager.specs.Live.{Live, AreLive}
use Rattle.vz_surface_manager.proofs.{Given.live_ticked, Fewer.none_begins}
use Rattle.vz_surface_manager.proofs.live.LiveSurfaces.tick.Goals as goal

pub returns-clause-live : goal.returns-clause-live
returns-clause-live c p w but always live next =
    let h = subst (AreLive w but) (sym c.self.view_is) live in
    live_ticked p w but _ c.tick.new.self c.args.tick always next c.tick.ensures.sets c.tick.ensures.temporary c.tick.ensures.spare h

pub returns-clause-temporary : goal.returns-clause-temporary
returns-clause-temporary c =
    subst (λ (v : Live). length c.tick.new.self.temporary ≤ length v.kept.temporary) c.self.view_is
    (none_begins c.args.tick _ _ c.tick.ensures.temporary)
