use Rattle.vz_surface_manager.proofs.New_surfaces.{kept_accepted, kept_created}
use Rattle.vz_surface_manager.proofs.kept_laws.new_surfaces_follow.Goals as goal

pub returns : goal.returns
returns c = record { created = kept_created; accepted = kept_accepted }
