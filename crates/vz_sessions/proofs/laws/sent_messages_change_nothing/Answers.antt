use Rattle.vz_sessions.specs.Grown.{grown}
use Rattle.vz_sessions.proofs.Grown_goes_on.{grown_legal, grown_world, grown_plan, grown_keeps, goes_on, settled}
use Rattle.vz_sessions.proofs.Frames_stay.{same_frames}
use Rattle.vz_sessions.proofs.laws.sent_messages_change_nothing.Goals as goal

pub returns : goal.returns
returns c =
    record {
      legal = grown_legal;
      world = grown_world;
      frames = λ p h n m names never l. same_frames p (grown p n m) h (goes_on p n m) (settled p h n m names never l) l;
      plan = grown_plan;
      keeps = grown_keeps;
    }
