use Rattle.vz_buffers.proofs.Turning.{turned_is}
use Rattle.vz_buffers.proofs.queue.Queue.painted.Goals as goal

pub returns : goal.returns
returns c =
    turned_is c.self.inside.size c.self.inside.next c.self.inside.stales.items c.turn.new.stales.items c.len.result c.args.self.now c.self.view_is c.len.ensures.value c.turn.ensures
