use Rattle.std.proofs.Common.{arith}
use Rattle.vz_threads.proofs.Working.{works_same, works_then, may_then, no_more}
use Rattle.vz_threads.proofs.messages.take_messages.Goals as goal

pub loop-end-init : goal.loop-end-init
loop-end-init g c = works_same _ c.args.end.now

pub take_next-requires-clause-may : goal.take_next-requires-clause-may
take_next-requires-clause-may g c κs within = may_then _ c.args.desk.now.id c.args.count c.args.end.now c.loop-end.end c.requires c.loop-end.invariant

pub loop-end-smaller : goal.loop-end-smaller
loop-end-smaller g c = let one = (c.in_ok-take_next.ensures).one in let t = c.loop-end-test.true in let e = c.taken.ensures in omega arith

pub loop-end-preserved : goal.loop-end-preserved
loop-end-preserved g c = works_then _ c.args.end.now c.loop-end.end c.take_next.new.end c.loop-end.invariant c.take_next.ensures.works

pub returns-in_err-take_next-clause-works : goal.returns-in_err-take_next-clause-works
returns-in_err-take_next-clause-works g c = works_then _ c.args.end.now c.loop-end.end c.take_next.new.end c.loop-end.invariant c.take_next.ensures.works

pub returns-clause-works : goal.returns-clause-works
returns-clause-works g c = c.loop-end.invariant

pub returns-clause-all : goal.returns-clause-all
returns-clause-all g c =
    let m = may_then _ c.args.desk.now.id c.args.count c.args.end.now c.loop-end.end c.requires c.loop-end.invariant in
    let few = no_more _ c.args.desk.now.id c.args.count c.loop-end.end m in
    let t = c.loop-end-test.false in
    let e = c.taken.ensures in
    omega arith
