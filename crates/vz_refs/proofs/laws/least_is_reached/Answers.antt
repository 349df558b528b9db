use Rattle.vz_refs.proofs.Keeping.{reached}
use Rattle.vz_refs.proofs.laws.least_is_reached.Goals as goal

pub returns : goal.returns
returns c w sets kept root ids references starting least id = reached w sets kept root ids (c.reached_are_least.ensures.surfaces w) references starting least id
