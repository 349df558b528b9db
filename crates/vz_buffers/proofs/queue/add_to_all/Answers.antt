use Rattle.std.proofs.Common.{arith}
use Rattle.std.specs.Option.{option_map}
use Rattle.std.proofs.lemmas.List.Edits.{map_over_more}
use Rattle.vz_geom.specs.Rectangle.{join}
use Rattle.vz_buffers.proofs.queue.add_to_all.Goals as goal

pub loop-stale-preserved : goal.loop-stale-preserved
loop-stale-preserved c =
    rw (c.add_to.ensures, ← c.stale-item.is)
    (map_over_more (option_map (join c.args.r.now)) c.args.stales.now c.loop-stale.stale-items c.loop-stale.stale-index c.stale-item.result
    (omega arith) c.loop-stale.invariant c.stale-item.is)
