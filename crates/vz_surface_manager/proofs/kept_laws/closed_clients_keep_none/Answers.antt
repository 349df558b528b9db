use Rattle.vz_surface_manager.proofs.Closed_kept.{kept_closing}
use Rattle.vz_surface_manager.proofs.kept_laws.closed_clients_keep_none.Goals as goal

pub returns : goal.returns
returns c = kept_closing
