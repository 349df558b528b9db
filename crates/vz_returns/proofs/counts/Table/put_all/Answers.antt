use Rattle.std.proofs.Common.{◌<◌, ◌+◌, length, sym, subst}
use Rattle.vz_returns.specs.Held.{from_on}
use Rattle.vz_returns.proofs.Least.{ArePut, put_none, put_fits, put_one, put_all_in}
use Rattle.vz_returns.proofs.counts.Table.put_all.Goals as goal

pub loop-id-init : goal.loop-id-init
loop-id-init c = put_none c.args.client c.args.self.now.list c.args.out.now.list c.args.out.now.spare c.requires

pub put-requires : goal.put-requires
put-requires c =
    (put_fits c.args.client c.args.self.now.list c.args.out.now.list c.args.out.now.spare c.loop-id.from c.loop-id.out.list c.loop-id.out.spare (c.in-Some.id, c.in-Some.count) c.loop-id.invariant
    c.in-Some.ensures.rising (sym c.in-Some.ensures.value)).0

pub loop-id-smaller : goal.loop-id-smaller
loop-id-smaller c =
    let fewer = put_fits c.args.client c.args.self.now.list c.args.out.now.list c.args.out.now.spare c.loop-id.from c.loop-id.out.list c.loop-id.out.spare (c.in-Some.id, c.in-Some.count) c.loop-id.invariant
    c.in-Some.ensures.rising (sym c.in-Some.ensures.value) in
    subst (λ n. length (from_on (n + 1) c.args.self.now.list) < length (from_on c.loop-id.from c.args.self.now.list)) (sym c.from-from.ensures) fewer.1

pub loop-id-preserved : goal.loop-id-preserved
loop-id-preserved c =
    subst (λ n. ArePut c.args.client c.args.self.now.list c.args.out.now.list c.args.out.now.spare (n + 1) c.put.new.self.list c.put.new.self.spare) (sym c.from-from.ensures)
    (put_one c.args.client c.args.self.now.list c.args.out.now.list c.args.out.now.spare c.loop-id.from c.loop-id.out.list c.put.new.self.list c.loop-id.out.spare c.put.new.self.spare (c.in-Some.id, c.in-Some.count) c.loop-id.invariant
    c.in-Some.ensures.rising (sym c.in-Some.ensures.value) c.put.ensures.list c.put.ensures.spare)

pub returns-clause-list : goal.returns-clause-list
returns-clause-list c =
    (put_all_in c.args.client c.args.self.now.list c.args.out.now.list c.args.out.now.spare c.loop-id.from c.loop-id.out.list c.loop-id.out.spare c.loop-id.invariant (sym c.in_default.ensures.value)).0

pub returns-clause-room : goal.returns-clause-room
returns-clause-room c =
    (put_all_in c.args.client c.args.self.now.list c.args.out.now.list c.args.out.now.spare c.loop-id.from c.loop-id.out.list c.loop-id.out.spare c.loop-id.invariant (sym c.in_default.ensures.value)).1
