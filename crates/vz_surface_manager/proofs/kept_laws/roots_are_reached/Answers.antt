use Rattle.vz_surface_manager.proofs.Rooted.{roots_same, marked_reached, lost_by, lost_of_client, lost_not_kept}
use Rattle.vz_surface_manager.proofs.kept_laws.roots_are_reached.Goals as goal

pub returns : goal.returns
returns c = record { roots = roots_same; reached = λ w r shows ids named kept is least. marked_reached w r named kept shows ids is least; lost = lost_by; marked = lost_of_client; not_kept = lost_not_kept }
