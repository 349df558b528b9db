use Rattle.vz_surface_manager.proofs.Gone_kept.{going_both}
use Rattle.vz_surface_manager.proofs.kept_laws.destroyed_surfaces_go.Goals as goal

pub returns : goal.returns
returns c = going_both
