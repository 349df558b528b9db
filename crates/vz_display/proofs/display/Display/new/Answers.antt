use Rattle.vz_display.proofs.Keeps.{new_is}
use Rattle.vz_display.proofs.display.Display.new.Goals as goal

pub invariant_of-result : goal.invariant_of-result
invariant_of-result c = new_is c.args.size c.args.buffers c.new.result c.never_made.result.items c.requires.size c.requires.upto c.new.ensures c.never_made.ensures
