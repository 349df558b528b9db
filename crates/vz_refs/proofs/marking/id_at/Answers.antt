use Rattle.vz_refs.proofs.Gathering.{id_there}
use Rattle.vz_refs.proofs.marking.id_at.Goals as goal

pub returns : goal.returns
returns c = id_there c.args.kept.now.entries c.args.at c.index.result.now c.index.ensures
