use Rattle.std.proofs.Common.{length, ap, ◌-◌, arith}
use Rattle.vz_returns.specs.Held.{alive_of}
use Rattle.vz_returns.proofs.Orders.{least_kept}
use Rattle.vz_returns.proofs.holder.Holder.release.Goals as goal

-- another is alive
pub set-requires : goal.set-requires
set-requires c =
    let same = ap (λ v. alive_of c.args.id v.holding.counted) c.self.view_is in
    omega (arith, same, c.requires)

pub invariant_of-self : goal.invariant_of-self
invariant_of-self c = omega (arith, c.self.invariant, c.set.ensures.len)

pub returns-then-counts-ne1-clause-spare : goal.returns-then-counts-ne1-clause-spare
returns-then-counts-ne1-clause-spare c =
    least_kept c.args.self.now.spare c.self.inside.counts.spare c.set.new.self.spare (c.self.inside.queue.spare - length c.self.inside.counts.list) (c.self.inside.queue.spare - length c.set.new.self.list)
    (ap (λ v. v.spare) c.self.view_is) c.set.ensures.spare (omega (arith, c.set.ensures.len))

-- it was the last: its return takes the place that was made for it
pub put-requires : goal.put-requires
put-requires c =
    let same = ap (λ v. alive_of c.args.id v.holding.counted) c.self.view_is in
    let fewer = c.remove.ensures.len (omega (arith, same, c.requires)) in
    omega (arith, c.self.invariant, fewer)

pub invariant_of-self-2 : goal.invariant_of-self-2
invariant_of-self-2 c =
    let same = ap (λ v. alive_of c.args.id v.holding.counted) c.self.view_is in
    let fewer = c.remove.ensures.len (omega (arith, same, c.requires)) in
    omega (arith, c.self.invariant, fewer, c.put.ensures.spare)

pub returns-clause-spare : goal.returns-clause-spare
returns-clause-spare c =
    let same = ap (λ v. alive_of c.args.id v.holding.counted) c.self.view_is in
    let fewer = c.remove.ensures.len (omega (arith, same, c.requires)) in
    least_kept c.args.self.now.spare c.self.inside.counts.spare c.remove.new.self.spare (c.self.inside.queue.spare - length c.self.inside.counts.list) (c.put.new.self.spare - length c.remove.new.self.list)
    (ap (λ v. v.spare) c.self.view_is) c.remove.ensures.spare (omega (arith, fewer, c.put.ensures.spare))
