use Rattle.std.proofs.Common.{sym, false, arith}
use Rattle.vz_frame.specs.declared.rules.Rule.TheVariants.{NoPass}
use Rattle.vz_frame.proofs.Tabling.{said, unsaid, none_said}
use Rattle.vz_frame.proofs.rules.first_said.Goals as goal

pub returns-then-is_broken : goal.returns-then-is_broken
returns-then-is_broken c = said c.args.table.now c.loop-is_broken.is_broken-index (false, NoPass) c.loop-is_broken-test.true c.if-is_broken.true c.loop-is_broken.invariant

pub loop-is_broken-preserved : goal.loop-is_broken-preserved
loop-is_broken-preserved c = unsaid c.args.table.now c.loop-is_broken.is_broken-index (false, NoPass) c.loop-is_broken-test.true c.if-is_broken.false c.loop-is_broken.invariant

pub returns : goal.returns
returns c = sym (none_said c.args.table.now c.loop-is_broken.is_broken-index (omega (arith, c.loop-is_broken-test.false)) c.loop-is_broken.invariant)
