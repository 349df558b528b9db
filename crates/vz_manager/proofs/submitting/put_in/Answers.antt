use Rattle.std.proofs.Common.{ap, ◌∙◌}
use Rattle.vz_frame.specs.declared.frame.CompositorFrame.{CompositorFrame}
use Rattle.vz_manager.proofs.Submits.{sends}
use Rattle.vz_manager.proofs.Taken_in.{taken_accepting, taken_room, taken_as, taken_live, taken_out, is_back}
use Rattle.vz_manager.proofs.submitting.put_in.Goals as goal

pub accept-requires-clause-accepts : goal.accept-requires-clause-accepts
accept-requires-clause-accepts c =
    let s = c.requires.arrives in
    let its = sends s.0 s.1 c.args.c s.2 s.3 s.4 c.args.support.now c.args.settling.now s.5.submits in
    let e = c.take_submission-frame.ensures.frame s.0 s.1 s.2 s.3 s.4 its s.5.submits.kept in (
      s.0,
      s.1,
      s.2,
      taken_accepting s.0 s.1 c.args.c s.2 s.3 s.4 c.args.sink c.args.blocks c.args.support.now c.args.settling.now s.5 _ _ e,
    )

pub accept-requires-clause-room : goal.accept-requires-clause-room
accept-requires-clause-room c =
    let s = c.requires.arrives in
    let its = sends s.0 s.1 c.args.c s.2 s.3 s.4 c.args.support.now c.args.settling.now s.5.submits in
    let e = c.take_submission-frame.ensures.frame s.0 s.1 s.2 s.3 s.4 its s.5.submits.kept in
    taken_room s.0 s.1 c.args.c s.2 s.3 s.4 c.args.sink c.args.blocks c.args.support.now c.args.settling.now s.5 _ _ e

pub returns-in-Ok-clause-accepted : goal.returns-in-Ok-clause-accepted
returns-in-Ok-clause-accepted c p w x local frame h =
    let its = sends p w c.args.c x local frame c.args.support.now c.args.settling.now h.submits in
    let e = c.take_submission-frame.ensures.frame p w x local frame its h.submits.kept in
    let is = taken_accepting p w c.args.c x local frame c.args.sink c.args.blocks c.args.support.now c.args.settling.now h _ _ e in
    taken_as p w c.args.c x local frame c.args.sink c.args.blocks c.args.support.now c.args.settling.now h _ _ e c.in-Ok.accepted
    (c.in-Ok.ensures.sub p w x is) (c.in-Ok.ensures.index p w x is) (c.in-Ok.ensures.replaced p w x is)

pub returns-in-Ok-clause-support : goal.returns-in-Ok-clause-support
returns-in-Ok-clause-support c p w x local frame h =
    let its = sends p w c.args.c x local frame c.args.support.now c.args.settling.now h.submits in
    let e = c.take_submission-frame.ensures.frame p w x local frame its h.submits.kept in
    c.accept-in-Ok.ensures p w x local frame c.args.support.now its h.submits.kept c.take_submission-frame.ensures.taken
    (ap (λ (f : CompositorFrame). f.metadata.ack) (c.as_frame.ensures ∙ e.1))

pub returns-in-Ok-clause-live : goal.returns-in-Ok-clause-live
returns-in-Ok-clause-live c p w x local frame h =
    let its = sends p w c.args.c x local frame c.args.support.now c.args.settling.now h.submits in
    let e = c.take_submission-frame.ensures.frame p w x local frame its h.submits.kept in
    let is = taken_accepting p w c.args.c x local frame c.args.sink c.args.blocks c.args.support.now c.args.settling.now h _ _ e in
    taken_live p w c.args.c x local frame c.args.sink c.args.blocks c.args.support.now c.args.settling.now h _ _ e _
    (c.in-Ok.ensures.live p w x is)

pub returns-in-Ok-clause-out : goal.returns-in-Ok-clause-out
returns-in-Ok-clause-out c p w x local frame h =
    let its = sends p w c.args.c x local frame c.args.support.now c.args.settling.now h.submits in
    let e = c.take_submission-frame.ensures.frame p w x local frame its h.submits.kept in
    taken_out p w c.args.c x local frame c.args.sink c.args.blocks c.args.support.now c.args.settling.now h _ _ e _ _ c.in-Ok.ensures.out

pub returns-in-Err-clause-back : goal.returns-in-Err-clause-back
returns-in-Err-clause-back c p w always kept =
    is_back p w c.args.c _ _ c.in-Err.frame c.args.support.now _ always kept c.requires.some c.requires.known
    c.take_submission-frame.ensures.message c.in-Err.ensures.back
    (λ x its. c.put_back.ensures p w x c.args.support.now its kept c.take_submission-frame.ensures.taken)
