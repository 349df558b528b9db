use Rattle.std.proofs.Common.{ap}
use Rattle.vz_refs.specs.Lasting.{surface_in, lasting_in}
use Rattle.vz_refs.proofs.temporaries.Temporaries.new.Goals as goal

pub returns : goal.returns
unfolding lasting_in
returns c = ap (lasting_in (surface_in c.new.result)) c.new-3.ensures
