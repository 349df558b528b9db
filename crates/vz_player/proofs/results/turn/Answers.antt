use denote.Param.Send.{param_send}
use Rattle.std.proofs.Common.{Option, subst, sym}
use Rattle.std.specs.Prelude.{IsSome}
use Rattle.vz_buffers.specs.Canvas.{Canvas}
use Rattle.vz_player.proofs.Going.{still_going, frames_put, is_shown}
use Rattle.vz_player.proofs.results.turn.Goals as goal

pub display-requires : goal.display-requires
display-requires g c = (param_send 2 _ c.type_bounds.send-M-Picture-Thin, still_going c.args.player.now c.turn_alone.new.self c.args.event c.in_ok-drawn.ensures.taken c.requires.going)

pub push_frame-requires : goal.push_frame-requires
push_frame-requires g c =
    is_shown c.args.player.now c.turn_alone.new.self c.in_ok-drawn.drawn c.display.result.now.shown c.if-not-drawn.false c.in_ok-drawn.ensures.written c.display.ensures.current

pub returns-clause-frames : goal.returns-clause-frames
returns-clause-frames g c =
    frames_put c.args.player.now c.turn_alone.new.self c.in_ok-drawn.drawn c.display.result.now.shown c.args.frames.now.items c.push_frame.new.frames.items c.if-not-drawn.false c.in_ok-drawn.ensures.written c.requires.frames
    c.display.ensures.current c.in_ok-push_frame.ensures
