use Rattle.std.proofs.Common.{arith}
use Rattle.vz_refs.specs.Lasting.{named_by}
use Rattle.vz_refs.proofs.Named.{ends_none, ends_both}
use Rattle.vz_refs.proofs.Ending.{none_beyond, one_more_done, all_done}
use Rattle.vz_refs.proofs.seats.Seats.end_named.Goals as goal

pub loop-k-init : goal.loop-k-init
loop-k-init c = (ends_none (named_by c.args.range.now) c.args.self.now c.requires.stands, none_beyond c.args.range.now c.args.self.now _ _ c.requires.stands c.size_of-size.ensures)

pub look-requires : goal.look-requires
look-requires c = record { stands = c.loop-k.invariant.0.stands }

pub loop-k-preserved : goal.loop-k-preserved
loop-k-preserved c = (
  ends_both (named_by c.args.range.now) c.args.self.now c.loop-k.self c.look.new.self c.loop-k.invariant.0 c.look.ensures.ends,
  one_more_done c.args.range.now c.loop-k.self c.look.new.self _ _ c.loop-k.k c.loop-k-test.true c.loop-k.invariant.1 c.look.ensures.ends c.look.ensures.rid,
)

pub returns-clause-ends : goal.returns-clause-ends
returns-clause-ends c = c.loop-k.invariant.0

pub returns-clause-rid : goal.returns-clause-rid
returns-clause-rid c = all_done c.args.range.now c.loop-k.self _ _ c.loop-k.invariant.0.stands c.group-group.ensures (omega (arith, c.loop-k-test.false)) c.loop-k.invariant.1
