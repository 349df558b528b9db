use Rattle.std.proofs.Common.{◌∙◌, arith}
use Rattle.vz_threads.specs.Crews.{IsInCrew, IsToldBy}
use Rattle.vz_threads.proofs.{Crewing.in_crew_may, Crewing.in_files, Crewing.start_one, Crewing.start_goes, Crewing.all_more, crew.start_all.Goals.In-Some}
use Rattle.vz_threads.proofs.crew.start_all.Goals as goal
use Rattle.vz_threads.proofs.crew.start_all.Given.{Over}

member : (g : Over) (c : In-Some g) → IsInCrew (g.G.Gate.told c.args.gate.now) c.args.desk.now.id c.args.messages.now c.in-Some.end
member g c =
    start_one _ c.args.desk.now.id c.args.messages.now c.args.ends.now.items c.loop-end.ends.items c.pop.new.self.items c.in-Some.end c.loop-end.started.items c.requires.crew
    c.loop-end.invariant.works (c.in-Some.ensures).items

pub count_of-count-requires-clause-upto : goal.count_of-count-requires-clause-upto
count_of-count-requires-clause-upto g c κs within = (in_files _ _ _ _ (member g (goal.at.count_of-count-requires-clause-upto g c).In-Some)).1

pub bounds-refused-client : goal.bounds-refused-client
bounds-refused-client g c =
    let known = in_files _ _ _ _ (member g (goal.at.bounds-refused-client g c).In-Some) in
    let number = c.client.ensures.number in
    let flags = c.requires.flags in
    let from = known.0 in
    let upto = known.1 in
    omega arith

pub start-requires-after_bounds : goal.start-requires-after_bounds
start-requires-after_bounds g c κs within = in_crew_may _ _ _ _ c.count_of-count.result (member g (goal.at.start-requires-after_bounds g c).In-Some) c.count_of-count.ensures

pub loop-end-preserved : goal.loop-end-preserved
loop-end-preserved g c =
    let i = c.loop-end.invariant in
    let p = (c.in-Some.ensures).cases in
    let q = c.push_reserved.ensures in
    record {
      works = start_goes _ c.args.ends.now.items c.loop-end.ends.items c.pop.new.self.items c.in-Some.end c.loop-end.started.items c.push_reserved.new.self.items c.start.result i.works
          (c.in-Some.ensures).items c.start.ensures.works q.items;
      told = all_more (IsToldBy c.args.gate.now) c.loop-end.started.items c.push_reserved.new.self.items c.start.result q.items i.told c.start.ensures.gates;
      room = let r = i.room in let a = q.len in let b = q.capacity in omega arith;
      count = let r = i.count in let a = q.len in omega arith;
      same = (c.in-Some.ensures).capacity ∙ i.same;
    }
