use Rattle.vz_rules.proofs.Kept_small.{small_client, small_surface, small_submission, small_resource, small_return}
use Rattle.vz_rules.proofs.kept_laws.numbers_are_small.Goals as goal

pub returns : goal.returns
returns c = record { clients = small_client; surfaces = small_surface; submissions = small_submission; resources = small_resource; returns = small_return }
