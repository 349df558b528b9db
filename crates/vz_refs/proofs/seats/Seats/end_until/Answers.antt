use Rattle.std.proofs.Common.{arith}
use Rattle.vz_refs.specs.Lasting.{is_among}
use Rattle.vz_refs.proofs.Named.{ends_none, ends_one, ends_both}
use Rattle.vz_refs.proofs.Ending.{is_within, one_more_gone}
use Rattle.vz_refs.proofs.seats.Seats.end_until.Goals as goal

pub loop-number-init : goal.loop-number-init
loop-number-init c = (c.requires.stands, ends_none (is_among c.args.until c.args.first c.args.next) c.args.self.now c.requires.stands, λ n same low high. absurd (omega (arith, low, high)))

pub loop-number-preserved : goal.loop-number-preserved
loop-number-preserved c = (
  c.take.ensures.stands,
  ends_both (is_among c.args.until c.args.first c.args.next) c.args.self.now c.loop-number.self c.take.new.self c.loop-number.invariant.1
      (ends_one (is_among c.args.until c.args.first c.args.next) c.loop-number.self c.take.new.self _ c.take.ensures.stands c.take.ensures.surface c.take.ensures.names c.take.ensures.room
      (λ d e. is_within c.args.until c.args.first c.args.next c.loop-number.number (omega arith) (omega arith))),
  one_more_gone c.args.until c.args.first c.loop-number.number c.loop-number.self c.take.new.self c.loop-number.invariant.2 c.take.ensures.surface,
)
