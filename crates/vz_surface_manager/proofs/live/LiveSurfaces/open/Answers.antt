use Rattle.vz_surface_manager.proofs.Opened.{live_opened}
use Rattle.vz_surface_manager.proofs.live.LiveSurfaces.open.Goals as goal

pub returns-clause-live : goal.returns-clause-live
returns-clause-live c p many =
    live_opened p c.in_ok-new.field-0 c.in_ok-new-2.field-0 c.new-3.result c.new-4.result c.new-5.result c.in_ok-new.ensures (c.in_ok-new-2.ensures.lent p many) (c.new-3.ensures.owed p) c.new-4.ensures.sets
    c.new-4.ensures.temporary c.new-5.ensures.surfaces c.new-5.ensures.last
