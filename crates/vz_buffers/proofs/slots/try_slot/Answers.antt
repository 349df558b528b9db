use Rattle.std.proofs.Common.{rules, ◌≡◌, false}
use Rattle.vz_buffers.proofs.Taking.{waits, own_band, own_drawn, now_done}
use Rattle.vz_buffers.proofs.slots.try_slot.Goals as goal

pub paint_ready-requires-clause-placed : goal.paint_ready-requires-clause-placed
paint_ready-requires-clause-placed g c = c.deref_mut-slot.result.now.placed

pub paint_ready-requires-clause-band : goal.paint_ready-requires-clause-band
paint_ready-requires-clause-band g c =
    let s = c.deref_mut-slot.result.now in
    let not_done : s.done ≡ false = search rules in
    own_band _ _ _ _ _ _ _ s.whole s.first s.many (waits _ _ _ _ _ _ s.state not_done)

pub invariant_of-slot-clause-state : goal.invariant_of-slot-clause-state
invariant_of-slot-clause-state g c =
    let s = c.deref_mut-slot.result.now in
    let not_done : s.done ≡ false = search rules in
    now_done g.J.Job.work _ _ _ _ (own_drawn g.J.Job.work _ _ _ _ _ _ _ s.first s.many (waits _ _ _ _ _ _ s.state not_done) c.paint_ready.ensures.drawn)
