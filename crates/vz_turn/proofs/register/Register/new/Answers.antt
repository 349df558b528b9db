use Rattle.vz_turn.proofs.Keeping.{new_keeps}
use Rattle.vz_turn.proofs.register.Register.new.Goals as goal

pub invariant_of-result : goal.invariant_of-result
invariant_of-result g c = new_keeps (g.M.Machine.state c.args.machine) c.new-2.result.list c.new.result.list c.new-2.ensures c.new.ensures c.requires.opening
