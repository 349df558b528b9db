use Rattle.vz_deadlines.specs.Slots.{AreBounded}
use Rattle.vz_deadlines.proofs.slots.Slots.new.Goals as goal

pub invariant_of-result : goal.invariant_of-result
unfolding AreBounded
invariant_of-result c = tt
