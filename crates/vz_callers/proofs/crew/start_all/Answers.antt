use Rattle.std.proofs.Common.{rules, ◌∙◌, arith}
use Rattle.vz_callers.specs.{Callers.HasCalled, Crews.IsAtWork}
use Rattle.vz_callers.proofs.Crewing.{numbers_move, none_at_work, all_popped, all_pushed, all_none, has_file}
use Rattle.vz_callers.proofs.crew.start_all.Goals as goal
use Rattle.vz_callers.proofs.{crew.start_all.Goals.In-Some, crew.start_all.Given.Over}

member : (g : Over) (c : In-Some g) → HasCalled (g.G.Gate.told c.args.gate.now) c.args.hub.now.id c.requires.crew.0 c.in-Some.pass 0
member g c =
    let p = c.requires.crew.0 in
    (all_popped (λ t. HasCalled (g.G.Gate.told c.args.gate.now) c.args.hub.now.id p t 0) c.loop-pass.passes.items c.pop.new.self.items c.in-Some.pass (c.in-Some.ensures).items (c.loop-pass.invariant.waiting p c.requires.crew.1)).1

pub count_of-count-requires-after_bounds : goal.count_of-count-requires-after_bounds
count_of-count-requires-after_bounds g c κs within =
    has_file c.args.hub.now.id c.requires.crew.0 c.args.messages.now c.in-Some.pass c.requires.crew.1.counts (member g (goal.at.count_of-count-requires-after_bounds g c).In-Some).client

pub start-requires-after_bounds : goal.start-requires-after_bounds
start-requires-after_bounds g c κs within = (c.requires.crew.0, (member g (goal.at.start-requires-after_bounds g c).In-Some).client)

pub loop-pass-init : goal.loop-pass-init
loop-pass-init g c = record {
  numbers = none_at_work c.args.passes.now.items c.args.started.now.items c.requires.room.0;
  waiting = λ p crew. crew.new;
  going = λ p crew. all_none (IsAtWork g.G.Gate.told c.args.gate.now c.args.hub.now.id p) c.args.started.now.items c.requires.room.0;
  room = let r = c.requires.room.1 in let e = c.requires.room.0 in search rules;
  count = let e = c.requires.room.0 in search rules;
  same = search rules;
}

pub loop-pass-preserved : goal.loop-pass-preserved
loop-pass-preserved g c =
    let i = c.loop-pass.invariant in
    let p = (c.in-Some.ensures).cases in
    let q = c.push_reserved.ensures in
    record {
      numbers = numbers_move c.loop-pass.passes.items c.pop.new.self.items c.in-Some.pass c.loop-pass.started.items c.push_reserved.new.self.items c.start.result (c.in-Some.ensures).items q.items c.start.ensures.number ∙ i.numbers;
      waiting = λ r crew. (all_popped (λ t. HasCalled (g.G.Gate.told c.args.gate.now) c.args.hub.now.id r t 0) c.loop-pass.passes.items c.pop.new.self.items c.in-Some.pass (c.in-Some.ensures).items (i.waiting r crew)).0;
      going = λ r crew. all_pushed (IsAtWork g.G.Gate.told c.args.gate.now c.args.hub.now.id r) c.loop-pass.started.items c.push_reserved.new.self.items c.start.result q.items (i.going r crew)
          (c.start.ensures.work r (all_popped (λ t. HasCalled (g.G.Gate.told c.args.gate.now) c.args.hub.now.id r t 0) c.loop-pass.passes.items c.pop.new.self.items c.in-Some.pass (c.in-Some.ensures).items (i.waiting r crew)).1);
      room = let r = i.room in let a = q.len in let b = q.capacity in omega arith;
      count = let r = i.count in let a = q.len in omega arith;
      same = (c.in-Some.ensures).capacity ∙ i.same;
    }
