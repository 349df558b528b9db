use Rattle.vz_rules.proofs.Kept_collected.{shown_once, frame_once, reach_once, collect_once}
use Rattle.vz_rules.proofs.Kept_exists.{reached_exist}
use Rattle.vz_rules.proofs.kept_laws.one_collection_is_enough.Goals as goal

pub returns : goal.returns
returns c = record { shown = shown_once; submitted = frame_once; reached = λ w id h. reach_once w id h; once = collect_once; exists = λ w id h. reached_exist w id h }
