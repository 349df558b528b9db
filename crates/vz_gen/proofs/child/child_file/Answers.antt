use Rattle.vz_gen.specs.Make.{rounds_from}
use Rattle.vz_gen.proofs.Rounds.{rounds_step}
use Rattle.vz_gen.proofs.child.child_file.Goals as goal

pub loop-r-preserved : goal.loop-r-preserved
loop-r-preserved c =
    rounds_step c.args.k c.args.n c.loop-r.r c.loop-r.messages.items c.add_round.new.messages.items (rounds_from c.args.k c.args.n 1) c.loop-r-test.true c.in_ok-add_round.ensures c.loop-r.invariant
