use Rattle.std.proofs.Common.{rules}
use Rattle.vz_buffers.proofs.Taking.{ready_small, set_ready, may_hold, both_drawn}
use Rattle.vz_buffers.proofs.holding.Site.fourth.Goals as goal

pub pixels_in-requires-clause-width : goal.pixels_in-requires-clause-width
pixels_in-requires-clause-width g c = ready_small _ _ _ _ _ c.requires.ready c.args.self.now.placed.across

pub fifth-requires-after_bounds : goal.fifth-requires-after_bounds
fifth-requires-after_bounds g c κs within =
    let cut = c.cut-parts.ensures in
    let split = c.split_at_mut-top.ensures in
    may_hold _ _ _ _ _ _ _ _ _ _ _ _ _ c.requires.ready c.requires.next c.args.self.now.placed.across cut.from cut.later cut.all c.pixels_in.ensures.value split.front split.back

pub returns-clause-ready : goal.returns-clause-ready
returns-clause-ready g c = set_ready _ _ _ _ _ c.fifth.ensures.ready c.end_band.ensures.ready

pub returns-clause-rest : goal.returns-clause-rest
returns-clause-rest g c =
    let cut = c.cut-parts.ensures in
    let split = c.split_at_mut-top.ensures in
    both_drawn _ _ _ _ _ _ _ _ _ _ _ _ _ _ _ c.requires.ready c.args.self.now.placed.across cut.from cut.later cut.all c.pixels_in.ensures.value split.value split.front_len (search rules) c.fifth.ensures.held.put
    c.fifth.ensures.rest
