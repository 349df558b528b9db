use Rattle.std.proofs.Common.{rules}
use Rattle.vz_buffers.proofs.Taking.{ready_small, may_hold, both_drawn}
use Rattle.vz_buffers.proofs.holding.paint_job.Goals as goal

pub pixels_in-requires-clause-width : goal.pixels_in-requires-clause-width
pixels_in-requires-clause-width g c = ready_small _ _ _ _ _ c.requires.ready c.requires.placed.across

pub first-requires-after_bounds : goal.first-requires-after_bounds
first-requires-after_bounds g c κs within =
    let cut = c.cut-parts.ensures in
    let split = c.split_at_mut-top.ensures in
    may_hold _ _ _ _ _ _ _ _ _ _ _ _ _ c.requires.ready c.requires.band c.requires.placed.across cut.from cut.later cut.all c.pixels_in.ensures.value split.front split.back

pub returns : goal.returns
returns g c =
    let cut = c.cut-parts.ensures in
    let split = c.split_at_mut-top.ensures in
    record {
      drawn = both_drawn _ _ _ _ _ _ _ _ _ _ _ _ _ _ _ c.requires.ready c.requires.placed.across cut.from cut.later cut.all c.pixels_in.ensures.value split.value split.front_len (search rules)
          c.first.ensures.held.put c.first.ensures.rest;
    }
