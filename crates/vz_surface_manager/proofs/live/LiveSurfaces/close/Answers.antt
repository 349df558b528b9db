use Rattle.std.proofs.Common.{◌≡◌, ◌≤◌, length, sym, subst}
use Rattle.vz_surfaces.specs.Reading.{existing_count}
use Rattle.vz_surface_manager.specs.Live.{Live, AreLive}
use Rattle.vz_surface_manager.proofs.{Given.live_closed, Fewer.none_joins, Fewer.as_many_marked}
use Rattle.vz_surface_manager.proofs.live.LiveSurfaces.close.Goals as goal

pub returns-clause-live : goal.returns-clause-live
returns-clause-live c w x always live known number sink =
    let h = subst (AreLive w _) (sym c.self.view_is) live in
    live_closed w x _ c.mark_all.new.self c.sink_gone.new.self c.args.client c.args.sink always known number sink c.mark_all.ensures c.sink_gone.ensures.sets c.sink_gone.ensures.temporary c.sink_gone.ensures.spare h

pub returns-clause-surfaces : goal.returns-clause-surfaces
returns-clause-surfaces c =
    subst (λ (v : Live). existing_count c.mark_all.new.self ≡ existing_count v.store) c.self.view_is
    (as_many_marked c.args.client _ _ c.mark_all.ensures)

pub returns-clause-temporary : goal.returns-clause-temporary
returns-clause-temporary c =
    subst (λ (v : Live). length c.sink_gone.new.self.temporary ≤ length v.kept.temporary) c.self.view_is
    (none_joins c.args.sink _ _ c.sink_gone.ensures.temporary)
