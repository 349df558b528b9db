use Rattle.std.proofs.Common.{rules, sym, ◌∙◌}
use Rattle.std.proofs.lemmas.List.{take_more}
use Rattle.vz_player.proofs.Going.{same_plan, same_buffers, still_going, events_more, starts, steps_more}
use Rattle.vz_player.proofs.results.play.Goals as goal

pub loop-event-init : goal.loop-event-init
loop-event-init g c =
    let first = starts c.new-player.result (g.M.Machine.state c.args.machine).plan c.args.buffers c.args.steps.now c.new-player.ensures in
    (first.0, first.1, first.2, first.3, c.new-frames.ensures.items ∙ first.4, first.5)

pub loop-event-preserved : goal.loop-event-preserved
loop-event-preserved g c =
    let before = c.loop-event.player in
    let after = c.turn.new.player in
    let taken = c.in_ok-count.ensures.taken in (
      same_plan before after _ taken ∙ c.loop-event.invariant.0,
      same_buffers before after _ taken ∙ c.loop-event.invariant.1,
      still_going before after _ taken c.loop-event.invariant.2,
      events_more before after _ _ taken c.loop-event.invariant.3 ∙ sym (take_more c.args.events.now c.loop-event.event-index _ (search rules)),
      c.in_ok-count.ensures.frames,
      steps_more c.args.steps.now c.loop-event.steps c.turn.new.steps _ _ c.loop-event.invariant.5 c.in_ok-count.ensures.counted,
    )
