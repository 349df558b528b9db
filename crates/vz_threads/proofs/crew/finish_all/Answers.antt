use Rattle.std.proofs.Common.{arith, rules}
use Rattle.vz_threads.specs.Crews.{crew_of, IsToldBy}
use Rattle.vz_threads.proofs.Crewing.{finish_goes, all_less}
use Rattle.vz_threads.proofs.crew.finish_all.Goals as goal

pub loop-one-preserved : goal.loop-one-preserved
loop-one-preserved g c =
    let i = c.loop-one.invariant in
    let p = (c.in-Some.ensures).cases in
    let q = c.push_reserved.ensures in
    record {
      works = λ gate told.
          let before = i.works gate told in
          let less = all_less (IsToldBy gate) c.pop.new.self.items c.loop-one.started.items c.in-Some.one (c.in-Some.ensures).items before.0 in (
            less.0,
            finish_goes (g.G.Gate.told gate) (crew_of c.args.started.now.items) c.loop-one.ends.items c.push_reserved.new.self.items c.finish.result c.loop-one.started.items c.pop.new.self.items c.in-Some.one before.1
                (c.in-Some.ensures).items (c.finish.ensures gate less.1) q.items,
          );
      room = let r = i.room in let a = q.len in let b = q.capacity in omega arith;
    }

pub loop-one-init : goal.loop-one-init
loop-one-init g c = record { works = λ gate told. (told, search rules); room = search rules }

pub returns-clause-works : goal.returns-clause-works
returns-clause-works g c = λ gate told. let w = c.loop-one.invariant.works gate told in search rules
