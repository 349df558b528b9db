use Rattle.std.proofs.Common.{rules, ◌≡◌, false, true}
use Rattle.vz_buffers.proofs.Taking.{waits, is_drawn, own_band, own_drawn}
use Rattle.vz_buffers.proofs.slots.end_band.Goals as goal

pub returns-then-done-clause-drawn : goal.returns-then-done-clause-drawn
returns-then-done-clause-drawn g c =
    let done : c.args.done ≡ true = search rules in
    is_drawn _ _ _ _ _ _ c.requires.state done

pub paint_ready-requires-clause-band : goal.paint_ready-requires-clause-band
paint_ready-requires-clause-band g c =
    let not_done : c.args.done ≡ false = search rules in
    own_band _ _ _ _ _ _ _ c.requires.band c.requires.from c.requires.count (waits _ _ _ _ _ _ c.requires.state not_done)

pub returns-clause-drawn : goal.returns-clause-drawn
returns-clause-drawn g c =
    let not_done : c.args.done ≡ false = search rules in
    own_drawn g.J.Job.work _ _ _ _ _ _ _ c.requires.from c.requires.count (waits _ _ _ _ _ _ c.requires.state not_done) c.paint_ready.ensures.drawn
