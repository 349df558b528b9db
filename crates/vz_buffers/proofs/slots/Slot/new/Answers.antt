use Rattle.vz_buffers.proofs.Taking.{begun}
use Rattle.vz_buffers.proofs.slots.Slot.new.Goals as goal

pub invariant_of-result : goal.invariant_of-result
invariant_of-result g c = record {
  same = c.requires.name;
  placed = c.requires.placed;
  first = c.requires.from;
  many = c.requires.count;
  whole = c.requires.band;
  state = begun _ _ _ _ _ c.requires.before;
}
