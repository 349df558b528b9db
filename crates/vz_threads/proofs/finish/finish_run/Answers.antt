use Rattle.vz_threads.specs.Runs.{WritesMoreFront}
use Rattle.vz_threads.proofs.Finished.{tail_front, tail_gated, err_any}
use Rattle.vz_threads.proofs.finish.finish_run.Goals as goal

pub returns-in_err-rest-in-Ok-clause-begun : goal.returns-in_err-rest-in-Ok-clause-begun
returns-in_err-rest-in-Ok-clause-begun g c =
    let before = g.F.Shelf.shelved c.args.shelf.now in
    let after = g.F.Shelf.shelved c.play_tail.new.shelf in
    err_any c.from_residual.result (WritesMoreFront (g.M.Machine.state c.args.machine).plan c.args.buffers (before.name c.args.file.slot) c.args.gathered.list c.into_history.result before after)
    (tail_front (g.M.Machine.state c.args.machine).plan c.args.buffers c.args.gathered.list c.into_history.result c.resume-player.result c.play_tail.new.player (before.name c.args.file.slot) before after c.resume-player.ensures c.in-Ok.ensures.tail c.in-Ok.ensures.written
    c.into_history.ensures.value)

pub returns-in_err-rest-in-Ok-clause-gated : goal.returns-in_err-rest-in-Ok-clause-gated
returns-in_err-rest-in-Ok-clause-gated g c =
    tail_gated (g.G.Gate.told c.args.gate.now) _ _ _ c.into_history.result c.resume-player.result c.play_tail.new.player c.resume-player.ensures c.into_history.ensures.value c.play_tail.ensures.gated
