use Rattle.vz_sessions.proofs.Grown_goes_on.{goes_on}
use Rattle.vz_sessions.proofs.Legal_stays.{legal-onward, world-onward}
use Rattle.vz_sessions.proofs.Frames_stay.{same_frames}
use Rattle.vz_sessions.proofs.laws.plans_go_on.Goals as goal

pub returns : goal.returns
returns c = record { grown = goes_on; legal = legal-onward; world = world-onward; frames = same_frames }
