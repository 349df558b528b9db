use Rattle.std.proofs.Common.{◌≡◌, ap, arith}
use Rattle.vz_desk.specs.declared.totals.Totals.{Totals}
use Rattle.vz_threads.proofs.Working.{works_same, works_then, works_none, may_then}
use Rattle.vz_threads.proofs.messages.take_until_idle.Goals as goal

pub loop-end-init : goal.loop-end-init
loop-end-init g c = works_same _ c.args.end.now

pub idle-requires-after_bounds : goal.idle-requires-after_bounds
idle-requires-after_bounds g c κs within = (may_then _ c.args.desk.now.id c.args.count c.args.end.now c.loop-end.end c.requires c.loop-end.invariant).work.desk

pub returns-then-idle-clause-works : goal.returns-then-idle-clause-works
returns-then-idle-clause-works g c =
    works_then _ c.args.end.now c.loop-end.end c.idle.new.end c.loop-end.invariant (works_none _ c.loop-end.end c.idle.new.end c.idle.ensures.same c.idle.ensures.none)

pub take_next-requires-clause-may : goal.take_next-requires-clause-may
take_next-requires-clause-may g c κs within =
    may_then _ c.args.desk.now.id c.args.count c.args.end.now c.idle.new.end c.requires
    (works_then _ c.args.end.now c.loop-end.end c.idle.new.end c.loop-end.invariant (works_none _ c.loop-end.end c.idle.new.end c.idle.ensures.same c.idle.ensures.none))

pub loop-end-smaller : goal.loop-end-smaller
loop-end-smaller g c =
    let one = (c.in_ok-take_next.ensures).one in
    let t = c.loop-end-test.true in
    let e = c.taken.ensures in
    let same : c.idle.new.end.totals.taken ≡ c.loop-end.end.totals.taken = ap (λ (t : Totals). t.taken) c.idle.ensures.none.totals in
    omega arith

pub loop-end-preserved : goal.loop-end-preserved
loop-end-preserved g c =
    works_then _ c.args.end.now c.idle.new.end c.take_next.new.end
    (works_then _ c.args.end.now c.loop-end.end c.idle.new.end c.loop-end.invariant (works_none _ c.loop-end.end c.idle.new.end c.idle.ensures.same c.idle.ensures.none)) c.take_next.ensures.works

pub returns-in_err-take_next-clause-works : goal.returns-in_err-take_next-clause-works
returns-in_err-take_next-clause-works g c =
    works_then _ c.args.end.now c.idle.new.end c.take_next.new.end
    (works_then _ c.args.end.now c.loop-end.end c.idle.new.end c.loop-end.invariant (works_none _ c.loop-end.end c.idle.new.end c.idle.ensures.same c.idle.ensures.none)) c.take_next.ensures.works

pub returns-clause-works : goal.returns-clause-works
returns-clause-works g c = c.loop-end.invariant
