use Rattle.vz_sinks.proofs.Same_seats.{attached_as, delivered_as, standing_is, taken_as, closed_as}
use Rattle.vz_sinks.proofs.laws.begin_frames_are_those.Goals as goal

pub returns : goal.returns
returns c = record {
  attached = attached_as;
  delivered = delivered_as;
  stands = λ w. standing_is w.clients;
  taken = λ w. taken_as w.clients;
  closed = λ w. closed_as w.clients;
}
