use Rattle.std.proofs.Common.{◌≡◌, ◌<◌, sym, subst, arith, length, set, get_or, length-set}
use Rattle.vz_threads.specs.Crews.{IsInCrew, CrewWorksOn, HasTakenAll}
use Rattle.vz_threads.proofs.Crewing.{crew_on, crew_at, crew_goes, in_crew_may, in_files, written_back, took_all, holds_more}
use Rattle.vz_threads.proofs.left.take_left.Goals as goal
use Rattle.vz_threads.proofs.{left.take_left.Goals.After-end-item, left.take_left.Given.Over}

inside : (g : Over) (c : After-end-item g) → c.loop-end.end-index < length c.loop-end.end-items
inside g c = let t = c.loop-end-test.true in let a = c.loop-end.auto.end-items in let b = c.loop-end.auto.end-index-end in omega arith

member : (g : Over) (c : After-end-item g) → IsInCrew (g.G.Gate.told c.args.gate.now) c.args.desk.now.id c.args.messages.now (get_or c.loop-end.end-items c.loop-end.end-index c.end-item.result)
member g c =
    crew_at _ c.args.desk.now.id c.args.messages.now c.loop-end.end-items c.loop-end.end-index c.end-item.result (inside g c)
    (crew_on _ c.args.desk.now.id c.args.messages.now c.args.ends.now.items c.loop-end.end-items c.requires c.loop-end.invariant.works)

pub count_of-count-requires-clause-from : goal.count_of-count-requires-clause-from
count_of-count-requires-clause-from g c κs within = (in_files _ _ _ _ (member g (goal.at.count_of-count-requires-clause-from g c).After-end-item)).0

pub count_of-count-requires-clause-upto : goal.count_of-count-requires-clause-upto
count_of-count-requires-clause-upto g c κs within = (in_files _ _ _ _ (member g (goal.at.count_of-count-requires-clause-upto g c).After-end-item)).1

pub take_messages-requires-after_bounds : goal.take_messages-requires-after_bounds
take_messages-requires-after_bounds g c κs within =
    in_crew_may _ _ _ _ c.count_of-count.result (member g (goal.at.take_messages-requires-after_bounds g c).After-end-item) c.count_of-count.ensures

pub returns-in_err-take_messages-clause-works : goal.returns-in_err-take_messages-clause-works
returns-in_err-take_messages-clause-works g c =
    let within = inside g (goal.at.returns-in_err-take_messages-clause-works g c).After-end-item in
    let all : length (set c.loop-end.end-items c.loop-end.end-index c.take_messages.new.end) ≡ c.args.ends.now.len =
    let a = c.loop-end.auto.end-items in let b = length-set c.loop-end.end-items c.loop-end.end-index c.take_messages.new.end in let d = c.deref_mut-end-items.ensures.len in omega arith in
    subst (CrewWorksOn (g.G.Gate.told c.args.gate.now) c.args.ends.now.items)
    (sym (written_back c.args.ends.now.len (set c.loop-end.end-items c.loop-end.end-index c.take_messages.new.end) c.args.ends.now.items all))
    (crew_goes _ c.args.ends.now.items c.loop-end.end-items c.loop-end.end-index c.end-item.result c.take_messages.new.end c.loop-end.invariant.works within c.take_messages.ensures.works)

pub loop-end-preserved : goal.loop-end-preserved
loop-end-preserved g c =
    let within = inside g (goal.at.loop-end-preserved g c).After-end-item in
    record {
      works = crew_goes _ c.args.ends.now.items c.loop-end.end-items c.loop-end.end-index c.end-item.result c.take_messages.new.end c.loop-end.invariant.works within c.take_messages.ensures.works;
      taken = holds_more (HasTakenAll c.args.messages.now) c.loop-end.end-items c.loop-end.end-index c.take_messages.new.end within c.loop-end.invariant.taken
          (took_all _ c.args.messages.now c.count_of-count.result _ c.take_messages.new.end c.take_messages.ensures.works c.count_of-count.ensures (c.in_ok-take_messages.ensures).all);
    }
