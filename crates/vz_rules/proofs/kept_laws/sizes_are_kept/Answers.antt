use Rattle.vz_rules.proofs.Kept_few.{surface_size, frames_size, stored_block, listed_block}
use Rattle.vz_rules.proofs.kept_laws.sizes_are_kept.Goals as goal

pub returns : goal.returns
returns c = record { surface = surface_size; frames = frames_size; stored = stored_block; listed = listed_block }
