use Rattle.std.proofs.Common.{List, refl, sym, ap, ◌∙◌}
use Rattle.vz_buffers.specs.Canvas.{Canvas}
use Rattle.vz_outside.specs.Shelved.{Writing}
use Rattle.vz_pipe.specs.Ends.{Sending, Taking}
use Rattle.vz_threads.specs.{Outlets.Fixed, Outlets.framed, Pipes.bytes_of, Pipes.paper}
use Rattle.vz_threads.proofs.Through.{ready_piped, piped_run, fixed_stays, pipe_stays, given_up_is}
use Rattle.vz_threads.proofs.piping.run_piped.Goals as goal

pub returns-in_default-clause-run : goal.returns-in_default-clause-run
returns-in_default-clause-run g c = λ k ready opened.
    let u = c.give_up in
    given_up_is _ k c.args.course.rounds c.args.course.paced _ _ _ _ (u.ensures.run k _ c.args.course.rounds c.args.course.paced ready opened)
    (ap (λ o. framed g.F.Shelf.shelved o) u.ensures.outlet) u.ensures.played

pub run_beside-ran-requires-clause-opened : goal.run_beside-ran-requires-clause-opened
run_beside-ran-requires-clause-opened g c κs within =
    let s = c.requires.opened in
    (s.0, ready_piped s.0 _ _ s.1 refl refl (ap (λ (x : Sending Canvas). paper (bytes_of x.sent)) c.in-Ok.ensures.sender), s.2)

pub run_beside-ran-requires-clause-open : goal.run_beside-ran-requires-clause-open
run_beside-ran-requires-clause-open g c κs within = c.requires.opened.1.begins.opened

pub run_beside-ran-requires-clause-none : goal.run_beside-ran-requires-clause-none
run_beside-ran-requires-clause-none g c κs within = ap (λ (x : Taking Canvas). x.taken) c.in-Ok.ensures.receiver

pub write_rest-played-requires-clause-open : goal.write_rest-played-requires-clause-open
write_rest-played-requires-clause-open g c = c.run_beside-ran.ensures.wrote.behaves.call.slots c.args.frames.file.slot Writing c.requires.opened.1.begins.opened

pub write_rest-played-requires-clause-pipe : goal.write_rest-played-requires-clause-pipe
write_rest-played-requires-clause-pipe g c =
    let s = c.requires.opened in
    let b = c.run_beside-ran in
    let run = b.ensures.run s.0 (ready_piped s.0 _ _ s.1 refl refl (ap (λ (x : Sending Canvas). paper (bytes_of x.sent)) c.in-Ok.ensures.sender)) s.2 in
    let fixed = fixed_stays _ s.0 _ _ _ _ _ _ run in
    let sender = c.sender-3-1.given.1 (ap (λ (x : Fixed). x.shelf) (sym fixed)) ∙ c.give_back.ensures.first in
    c.end-sent.ensures.pipe
    ∙ ap (λ (x : Sending Canvas). x.pipe) sender
    ∙ pipe_stays _ _ _ _ fixed refl refl
    ∙ sym (b.ensures.pipe ∙ ap (λ (x : Taking Canvas). x.pipe) c.in-Ok.ensures.receiver)

pub returns-clause-run : goal.returns-clause-run
returns-clause-run g c = λ k ready opened.
    let b = c.run_beside-ran in
    let empty = ap (λ (x : Sending Canvas). paper (bytes_of x.sent)) c.in-Ok.ensures.sender in
    let run = b.ensures.run k (ready_piped k _ _ ready refl refl empty) opened in
    let fixed = fixed_stays _ k _ _ _ _ _ _ run in
    let sender = c.sender-3-1.given.1 (ap (λ (x : Fixed). x.shelf) (sym fixed)) ∙ c.give_back.ensures.first in
    let steps = c.steps-1.given.1 (ap (λ (x : Fixed). x.steps) (sym fixed)) ∙ c.give_back.ensures.second in
    let full = sym (ap (λ (l : List Canvas). paper (bytes_of l)) (c.end-sent.ensures.sent ∙ ap (λ (x : Sending Canvas). x.sent) sender)) in
    piped_run _ k c.args.course.rounds c.args.course.paced (framed g.F.Shelf.shelved c.args.frames) _ _ _ _ b.new.receiver.taken c.end-sent.result.sent (g.F.Shelf.shelved b.new.shelf)
    ready.begins.opened empty full refl refl refl steps b.result.1 b.result.0.played c.write_rest-played.result run
    b.ensures.wrote
    c.write_rest-played.ensures
