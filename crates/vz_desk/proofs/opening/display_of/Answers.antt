use Rattle.vz_desk.proofs.Dealing.{new_display}
use Rattle.vz_desk.proofs.opening.display_of.Goals as goal

pub invariant_of-result : goal.invariant_of-result
invariant_of-result g c = (new_display c.args.token c.requires.display c.requires.unused, c.requires.empty, c.requires.room)
