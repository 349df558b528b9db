use denote.Param.Send.{param_send}
use Rattle.std.proofs.Common.{rules, ◌≡◌, true, false, ap, ◌∙◌}
use Rattle.vz_player.specs.Taken.{AddsFramesFront}
use Rattle.vz_outside.proofs.Behaving.{on_err}
use Rattle.vz_player.proofs.Taking.{plan_on, stopped_on, turn_stopped, none_written, written_frame, frame_is, shows_written, frame_added, frame_begun}
use Rattle.vz_player.proofs.to_shelf.play_one.Goals as goal

pub returns-in_err-turn-clause-begun : goal.returns-in_err-turn-clause-begun
returns-in_err-turn-clause-begun g c =
    let s = g.F.Shelf.shelved c.args.shelf.now in
    on_err c.from_residual.result (AddsFramesFront c.args.player.now c.turn.new.self (s.name c.args.file.slot) s s)
    (turn_stopped c.args.player.now c.turn.new.self c.args.event (s.name c.args.file.slot) s c.in_err-turn.ensures.err)

pub returns-then-not-branch-clause-written : goal.returns-then-not-branch-clause-written
returns-then-not-branch-clause-written g c =
    let s = g.F.Shelf.shelved c.args.shelf.now in
    let none : c.in_ok-turn.field-0 ≡ false = search rules in
    none_written c.args.player.now c.turn.new.self (s.name c.args.file.slot) s c.in_ok-turn.field-0 c.in_ok-turn.ensures.written none

pub display-requires : goal.display-requires
display-requires g c = (param_send 2 _ c.type_bounds.send-M-Picture-Thin, stopped_on c.args.player.now c.turn.new.self c.args.event c.in_ok-turn.ensures.taken ∙ c.requires.going)

pub write_frame-requires-clause-size : goal.write_frame-requires-clause-size
write_frame-requires-clause-size g c = c.display.ensures.size ∙ (ap (λ p. p.size) (plan_on c.args.player.now c.turn.new.self c.args.event c.in_ok-turn.ensures.taken) ∙ c.requires.size)

pub write_frame-requires-clause-shows : goal.write_frame-requires-clause-shows
write_frame-requires-clause-shows g c =
    let some : c.in_ok-turn.field-0 ≡ true = search rules in
    let found = written_frame c.args.player.now c.turn.new.self c.in_ok-turn.field-0 c.in_ok-turn.ensures.written some in
    shows_written c.display.result.now.shown c.turn.new.self c.args.file.size found.0 c.requires.sides
    (ap (λ p. p.size) (plan_on c.args.player.now c.turn.new.self c.args.event c.in_ok-turn.ensures.taken) ∙ c.requires.size)
    c.display.ensures.size (c.display.ensures.current _ found.0 found.1) (c.display.ensures.whole _ found.0 found.1)

pub returns-in_err-write_frame-clause-begun : goal.returns-in_err-write_frame-clause-begun
returns-in_err-write_frame-clause-begun g c =
    let some : c.in_ok-turn.field-0 ≡ true = search rules in
    let found = written_frame c.args.player.now c.turn.new.self c.in_ok-turn.field-0 c.in_ok-turn.ensures.written some in
    let s = g.F.Shelf.shelved c.args.shelf.now in
    let after = g.F.Shelf.shelved c.write_frame.new.shelf in
    on_err c.from_residual-in_err-write_frame.result (AddsFramesFront c.args.player.now c.turn.new.self (s.name c.args.file.slot) s after)
    (frame_begun c.args.player.now c.turn.new.self c.display.result.now.shown found.0 (s.name c.args.file.slot) s after found.1
    (frame_is c.display.result.now.shown c.turn.new.self.plan.size found.0 (c.display.ensures.current _ found.0 found.1)) c.in_err-write_frame.ensures.begun)

pub returns-clause-written : goal.returns-clause-written
returns-clause-written g c =
    let some : c.in_ok-turn.field-0 ≡ true = search rules in
    let found = written_frame c.args.player.now c.turn.new.self c.in_ok-turn.field-0 c.in_ok-turn.ensures.written some in
    let s = g.F.Shelf.shelved c.args.shelf.now in
    frame_added c.args.player.now c.turn.new.self c.display.result.now.shown found.0 (s.name c.args.file.slot) s (g.F.Shelf.shelved c.write_frame.new.shelf) found.1
    (frame_is c.display.result.now.shown c.turn.new.self.plan.size found.0 (c.display.ensures.current _ found.0 found.1)) c.in_ok-write_frame.ensures.appended
