use Rattle.vz_support.proofs.Clients_kept.{stays_rising, stays_round, stays_named, stays_going, stays_given, stays_fed, stays_begun, stays_drawn, stays_done}
use Rattle.vz_support.proofs.laws.clients_stay.Goals as goal

pub returns : goal.returns
returns c =
    record {
      rising = stays_rising;
      round = stays_round;
      naming = stays_named;
      going = stays_going;
      returns = stays_given;
      feedback = stays_fed;
      begin = stays_begun;
      draw = stays_drawn;
      done = stays_done;
    }
