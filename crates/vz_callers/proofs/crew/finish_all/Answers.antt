use Rattle.std.proofs.Common.{◌∙◌, sym, arith}
use Rattle.vz_callers.specs.Crews.{IsAtWork}
use Rattle.vz_callers.proofs.{Crewing.numbers_move, Crewing.all_popped, Crewing.back_more, Crewing.has_file, crew.finish_all.Goals.In-Some}
use Rattle.vz_callers.proofs.crew.finish_all.Goals as goal

pub count_of-count-requires-after_bounds : goal.count_of-count-requires-after_bounds
count_of-count-requires-after_bounds g c κs within =
    let r = c.requires.going in
    let one = (all_popped (IsAtWork g.G.Gate.told r.0 r.1 r.2) c.loop-one.started.items c.pop.new.self.items c.in-Some.one (c.in-Some.ensures).items (c.loop-one.invariant.going r.0 r.1 r.2 r.3)).1 in
    has_file r.1 r.2 c.args.messages.now c.finish-called.result.pass r.3.counts (c.finish-called.ensures.called r.0 r.1 r.2 one).client

pub loop-one-preserved : goal.loop-one-preserved
loop-one-preserved g c =
    let i = c.loop-one.invariant in
    let p = (c.in-Some.ensures).cases in
    let q = c.push_reserved.ensures in
    record {
      numbers = sym (numbers_move c.push_reserved.new.self.items c.loop-one.passes.items c.finish-called.result.pass c.pop.new.self.items c.loop-one.started.items c.in-Some.one q.items (c.in-Some.ensures).items (sym c.finish-called.ensures.number)) ∙ i.numbers;
      going = λ gate id r work. (all_popped (IsAtWork g.G.Gate.told gate id r) c.loop-one.started.items c.pop.new.self.items c.in-Some.one (c.in-Some.ensures).items (i.going gate id r work)).0;
      back = λ gate id r work. back_more (g.G.Gate.told gate) id r c.args.messages.now c.loop-one.passes.items c.push_reserved.new.self.items c.finish-called.result.pass c.finish-called.result.made c.count_of-count.result c.loop-one.all (i.back gate id r work)
          (c.finish-called.ensures.called gate id r (all_popped (IsAtWork g.G.Gate.told gate id r) c.loop-one.started.items c.pop.new.self.items c.in-Some.one (c.in-Some.ensures).items (i.going gate id r work)).1) q.items c.count_of-count.ensures;
      room = let r = i.room in let a = q.len in let b = q.capacity in omega arith;
      count = let r = i.count in let a = q.len in omega arith;
      same = q.capacity ∙ i.same;
    }
