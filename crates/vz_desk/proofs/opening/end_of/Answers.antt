use Rattle.vz_desk.proofs.Dealing.{new_end}
use Rattle.vz_desk.proofs.opening.end_of.Goals as goal

pub invariant_of-result : goal.invariant_of-result
invariant_of-result g c = new_end c.args.token c.requires.unused
