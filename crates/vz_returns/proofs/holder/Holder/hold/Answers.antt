use Rattle.std.proofs.Common.{length, ap, ◌-◌, arith}
use Rattle.vz_returns.specs.Held.{alive_of}
use Rattle.vz_returns.proofs.Orders.{least_kept}
use Rattle.vz_returns.proofs.holder.Holder.hold.Goals as goal

pub set-requires : goal.set-requires
set-requires c =
    let same = ap (λ v. alive_of c.args.id v.holding.counted) c.self.view_is in
    omega (arith, same, c.requires.some)

pub invariant_of-self : goal.invariant_of-self
invariant_of-self c = omega (arith, c.self.invariant, c.set.ensures.len)

pub returns-clause-spare : goal.returns-clause-spare
returns-clause-spare c =
    least_kept c.args.self.now.spare c.self.inside.counts.spare c.set.new.self.spare (c.self.inside.queue.spare - length c.self.inside.counts.list) (c.self.inside.queue.spare - length c.set.new.self.list)
    (ap (λ v. v.spare) c.self.view_is) c.set.ensures.spare (omega (arith, c.set.ensures.len))
