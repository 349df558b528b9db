use Rattle.vz_hit.proofs.Owning.{none_of}
use Rattle.vz_hit.proofs.regions.Regions.new.Goals as goal

pub returns : goal.returns
returns c = none_of c.new.result.items c.new-2.result.items c.new.ensures.items
