use Rattle.vz_refs.specs.Lasting.{named_by}
use Rattle.vz_refs.proofs.Named.{ends_one}
use Rattle.vz_refs.proofs.seats.Seats.look.Goals as goal

pub returns-then-is_named-clause-ends : goal.returns-then-is_named-clause-ends
returns-then-is_named-clause-ends c =
    ends_one (named_by c.args.range.now) c.args.self.now c.take.new.self _ c.take.ensures.stands c.take.ensures.surface c.take.ensures.names c.take.ensures.room (c.is_named.ensures.yes c.if-is_named.true)
