use Rattle.std.proofs.Common.{length, ap, ◌-◌, arith}
use Rattle.vz_returns.proofs.Orders.{least_kept, least_used, least_room, no_error}
use Rattle.vz_returns.proofs.holder.Holder.lend.Goals as goal

-- the first that is alive: there is room for its counts and for its return
pub invariant_of-self : goal.invariant_of-self
invariant_of-self c =
    let now = c.self-then-counts-eq0.inside in
    let room = least_room c.ready.new.self.spare now.counts.spare (now.queue.spare - length now.counts.list) (ap (λ v. v.spare) c.self-then-counts-eq0.view_is) in
    omega (arith, c.self-then-counts-eq0.invariant, c.put.ensures.len, c.in_ok-ready.ensures.ok, room.1)

pub returns-then-counts-eq0-clause-spare : goal.returns-then-counts-eq0-clause-spare
returns-then-counts-eq0-clause-spare c =
    let now = c.self-then-counts-eq0.inside in
    let used = least_used c.ready.new.self.spare now.counts.spare c.put.new.self.spare (now.queue.spare - length now.counts.list) (now.queue.spare - length c.put.new.self.list)
    (ap (λ v. v.spare) c.self-then-counts-eq0.view_is) c.put.ensures.spare (omega (arith, c.put.ensures.len)) in
    omega (arith, used, c.in_ok-ready.ensures.spare)

pub returns-then-counts-eq0-clause-kept : goal.returns-then-counts-eq0-clause-kept
returns-then-counts-eq0-clause-kept c =
    let now = c.self-then-counts-eq0.inside in
    let room = least_room c.ready.new.self.spare now.counts.spare (now.queue.spare - length now.counts.list) (ap (λ v. v.spare) c.self-then-counts-eq0.view_is) in
    no_error c.put.result _ (c.put.ensures.succeeds (omega (arith, c.in_ok-ready.ensures.ok, room.0)))

-- another is alive
pub set-requires : goal.set-requires
set-requires c = omega (arith, c.get-counts.ensures.alive, c.if-counts-eq0.false)

pub invariant_of-self-2 : goal.invariant_of-self-2
invariant_of-self-2 c = omega (arith, c.self.invariant, c.set.ensures.len)

pub returns-clause-spare : goal.returns-clause-spare
returns-clause-spare c =
    let kept = least_kept c.args.self.now.spare c.self.inside.counts.spare c.set.new.self.spare (c.self.inside.queue.spare - length c.self.inside.counts.list) (c.self.inside.queue.spare - length c.set.new.self.list)
    (ap (λ v. v.spare) c.self.view_is) c.set.ensures.spare (omega (arith, c.set.ensures.len)) in
    omega (arith, kept)
