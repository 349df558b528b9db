use Rattle.std.proofs.Common.{refl}
use Rattle.vz_manager.proofs.opening.no_clients.Goals as goal

pub returns : goal.returns
returns c =
    record {
      size = refl;
      settling = c.in_ok-settling.ensures.stands;
      released = c.in_ok-settling.ensures.released;
      returned = c.new-2.ensures;
      fed = c.new-3.ensures;
    }
