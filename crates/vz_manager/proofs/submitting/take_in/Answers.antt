use Rattle.std.proofs.Common.{IsFalse, sym, subst}
use Rattle.vz_rules.specs.Messages.{accepted}
use Rattle.vz_surface_manager.specs.Waits.{is_among}
use Rattle.vz_surface_manager.proofs.Accepted_waits.{is_new}
use Rattle.vz_manager.proofs.Taken_in.{arrives, still_waiting, is_told, is_taken_in, is_within}
use Rattle.vz_manager.proofs.submitting.take_in.Goals as goal

pub wait-requires-clause-new : goal.wait-requires-clause-new
wait-requires-clause-new c =
    let s = c.requires.takes in
    let its = arrives s.0 s.1 c.args.c s.2 s.3 s.4 c.args.coming c.args.support.now c.args.settling.now s.5 in
    let told = c.in_ok-accepted.ensures.accepted s.0 s.1 s.2 s.3 s.4 its in
    let waits = still_waiting s.0 s.1 c.args.c s.2 s.3 s.4 c.args.coming c.args.support.now c.args.settling.now s.5
    c.put_in.new.settling.waiting c.put_in.ensures.waiting in
    subst (λ n. IsFalse (is_among c.put_in.new.settling.waiting n)) (sym told.sub)
    (is_new s.1 s.2 s.3 s.4 c.put_in.new.settling.waiting s.5.submits.keeps.always waits)

pub returns-clause-accepted : goal.returns-clause-accepted
returns-clause-accepted c p w x local frame h =
    c.in_ok-accepted.ensures.accepted p w x local frame
    (arrives p w c.args.c x local frame c.args.coming c.args.support.now c.args.settling.now h)

pub returns-clause-taken : goal.returns-clause-taken
returns-clause-taken c p w x local frame h =
    let its = arrives p w c.args.c x local frame c.args.coming c.args.support.now c.args.settling.now h in
    let told = c.in_ok-accepted.ensures.accepted p w x local frame its in
    let kept = c.in_ok-accepted.ensures.support p w x local frame its in
    let tells = is_told p w x local frame c.args.coming c.in_ok-accepted.accepted c.put_in.new.support c.tick-tick.result
    c.as_slice.result.now h.comes told kept (c.tick-tick.ensures p (accepted w x local frame).world kept) c.as_slice.ensures in
    let waits = still_waiting p w c.args.c x local frame c.args.coming c.args.support.now c.args.settling.now h
    c.put_in.new.settling.waiting c.put_in.ensures.waiting in
    is_taken_in p w c.args.c x local frame c.args.coming c.args.support.now c.args.settling.now h c.put_in.new.support
    c.put_in.new.settling.live c.wait.new.waiting c.wait.new.activated.list kept
    (c.in_ok-accepted.ensures.live p w x local frame its)
    (c.wait.ensures.waits w x local frame h.submits.keeps.always waits tells)
    (c.wait.ensures.ready w x local frame h.submits.keeps.always h.submits.keeps.none_ready tells)

pub returns-clause-within : goal.returns-clause-within
returns-clause-within c =
    let s = c.requires.takes in
    let its = arrives s.0 s.1 c.args.c s.2 s.3 s.4 c.args.coming c.args.support.now c.args.settling.now s.5 in
    is_within s.0 s.1 c.args.c s.2 s.3 s.4 c.args.coming c.args.support.now c.args.settling.now s.5 c.put_in.new.settling.live
    c.wait.new.waiting c.put_in.new.settling.waiting _ c.put_in.ensures.surfaces (c.put_in.ensures.out s.0 s.1 s.2 s.3 s.4 its)
    c.in_ok-accepted.ensures.count c.put_in.ensures.kept c.put_in.ensures.waiting c.wait.ensures.few
