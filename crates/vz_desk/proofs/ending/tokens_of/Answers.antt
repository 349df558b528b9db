use Rattle.std.proofs.Common.{arith, length, ap}
use Rattle.vz_desk.proofs.Gathering.{starts_collecting, goes_collecting, collected_ours, collected_ends, collected_display}
use Rattle.vz_desk.proofs.ending.tokens_of.Goals as goal

pub loop-end-init : goal.loop-end-init
loop-end-init g c = record {
  collected = starts_collecting c.args.ends.items c.d.inside.token _ c.args.d c.d.inside.room.items c.push_reserved.new.self.items c.d.invariant.0 c.d.view_is c.d.invariant.1 c.push_reserved.ensures.items;
  room = let few = c.requires in let wide = c.d.invariant.2 in let one = c.push_reserved.ensures.len in let same = c.push_reserved.ensures.capacity in let none = ap length c.d.invariant.1 in let a = c.args.ends.ok.0 in let b = c.d.inside.room.ok.0 in omega arith;
}

pub loop-end-preserved : goal.loop-end-preserved
loop-end-preserved g c = let i = c.loop-end.invariant in let p = c.in-Some.ensures.cases in let q = c.push_reserved-in-Some.ensures in record {
  collected = goes_collecting c.args.ends.items c.loop-end.ends.items c.pop.new.self.items c.in-Some.end c.args.d c.end.inside.token _ c.loop-end.room.items c.push_reserved-in-Some.new.self.items i.collected c.in-Some.ensures.items c.end.invariant c.end.view_is q.items;
  room = let r = i.room in let a = q.len in let b = q.capacity in omega arith;
}

pub returns-clause-ours : goal.returns-clause-ours
returns-clause-ours g c = let n = c.loop-end.ends.ok.0 in let e = c.in_default.ensures.cases in
    collected_ours c.args.ends.items c.loop-end.ends.items c.args.d c.loop-end.room.items c.loop-end.invariant.collected (omega arith)

pub returns-clause-ends : goal.returns-clause-ends
returns-clause-ends g c = let n = c.loop-end.ends.ok.0 in let e = c.in_default.ensures.cases in
    collected_ends c.args.ends.items c.loop-end.ends.items c.args.d c.loop-end.room.items c.loop-end.invariant.collected (omega arith)

pub returns-clause-display : goal.returns-clause-display
returns-clause-display g c = let n = c.loop-end.ends.ok.0 in let e = c.in_default.ensures.cases in
    collected_display c.args.ends.items c.loop-end.ends.items c.args.d c.loop-end.room.items c.loop-end.invariant.collected (omega arith)
