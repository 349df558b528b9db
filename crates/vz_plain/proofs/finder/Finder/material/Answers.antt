use Rattle.vz_plain.proofs.finder.Finder.material.Goals as goal

pub returns-in-Surface-clause-lower : goal.returns-in-Surface-clause-lower
returns-in-Surface-clause-lower c = c.range.ensures.lower c.args.earlier.now
