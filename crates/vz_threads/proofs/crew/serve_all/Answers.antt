use Rattle.std.proofs.Common.{◌≡◌, ◌<◌, sym, subst, arith, length, set, length-set}
use Rattle.std.specs.List.{All}
use Rattle.vz_threads.specs.Crews.{CrewWorksOn, crew_of, IsToldBy, IsServedHere}
use Rattle.vz_threads.proofs.Crewing.{crew_on, started_at, started_goes, written_back, all_set, holds_more}
use Rattle.vz_threads.proofs.crew.serve_all.Goals as goal

pub serve-requires-after_bounds : goal.serve-requires-after_bounds
serve-requires-after_bounds g c κs within =
    let inside : c.loop-one.one-index < length c.loop-one.one-items = let t = c.loop-one-test.true in let a = c.loop-one.auto.one-items in let b = c.loop-one.auto.one-index-end in omega arith in
    started_at _ c.args.desk.now.id c.args.messages.now c.loop-one.one-items c.loop-one.one-index c.one-item.result inside
    (crew_on _ c.args.desk.now.id c.args.messages.now (crew_of c.args.started.now.items) (crew_of c.loop-one.one-items) c.requires c.loop-one.invariant.works)

pub returns-in_err-serve-clause-works : goal.returns-in_err-serve-clause-works
returns-in_err-serve-clause-works g c =
    let inside : c.loop-one.one-index < length c.loop-one.one-items = let t = c.loop-one-test.true in let a = c.loop-one.auto.one-items in let b = c.loop-one.auto.one-index-end in omega arith in
    let all : length (set c.loop-one.one-items c.loop-one.one-index c.serve.new.one) ≡ c.args.started.now.len =
    let a = c.loop-one.auto.one-items in let b = length-set c.loop-one.one-items c.loop-one.one-index c.serve.new.one in let d = c.deref_mut-one-items.ensures.len in omega arith in
    subst (λ l. CrewWorksOn (g.G.Gate.told c.args.gate.now) (crew_of c.args.started.now.items) (crew_of l))
    (sym (written_back c.args.started.now.len (set c.loop-one.one-items c.loop-one.one-index c.serve.new.one) c.args.started.now.items all))
    (started_goes _ (crew_of c.args.started.now.items) c.loop-one.one-items c.loop-one.one-index c.one-item.result c.serve.new.one c.loop-one.invariant.works inside c.serve.ensures.works)

pub loop-one-preserved : goal.loop-one-preserved
loop-one-preserved g c =
    let inside : c.loop-one.one-index < length c.loop-one.one-items = let t = c.loop-one-test.true in let a = c.loop-one.auto.one-items in let b = c.loop-one.auto.one-index-end in omega arith in
    record {
      works = started_goes _ (crew_of c.args.started.now.items) c.loop-one.one-items c.loop-one.one-index c.one-item.result c.serve.new.one c.loop-one.invariant.works inside c.serve.ensures.works;
      gates = λ told. all_set (IsToldBy c.args.gate.now) c.loop-one.one-items c.loop-one.one-index c.one-item.result c.serve.new.one inside (c.loop-one.invariant.gates told) c.serve.ensures.gates;
      served = holds_more (IsServedHere c.args.messages.now) c.loop-one.one-items c.loop-one.one-index c.serve.new.one inside c.loop-one.invariant.served (c.in_ok-serve.ensures).served;
    }

pub returns-in_err-serve-clause-gates : goal.returns-in_err-serve-clause-gates
returns-in_err-serve-clause-gates g c = λ told.
    let inside : c.loop-one.one-index < length c.loop-one.one-items = let t = c.loop-one-test.true in let a = c.loop-one.auto.one-items in let b = c.loop-one.auto.one-index-end in omega arith in
    let all : length (set c.loop-one.one-items c.loop-one.one-index c.serve.new.one) ≡ c.args.started.now.len =
    let a = c.loop-one.auto.one-items in let b = length-set c.loop-one.one-items c.loop-one.one-index c.serve.new.one in let d = c.deref_mut-one-items.ensures.len in omega arith in
    subst (λ l. All (IsToldBy c.args.gate.now) l)
    (sym (written_back c.args.started.now.len (set c.loop-one.one-items c.loop-one.one-index c.serve.new.one) c.args.started.now.items all))
    (all_set (IsToldBy c.args.gate.now) c.loop-one.one-items c.loop-one.one-index c.one-item.result c.serve.new.one inside (c.loop-one.invariant.gates told) c.serve.ensures.gates)
