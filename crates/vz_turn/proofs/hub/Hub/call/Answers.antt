use Rattle.std.proofs.Common.{inr}
use Rattle.vz_turn.proofs.Turning.{plan_kept, entry_added, makes}
use Rattle.vz_turn.proofs.hub.Hub.call.Goals as goal

pub leave-requires-clause-plan : goal.leave-requires-clause-plan
leave-requires-clause-plan g c κs within = let e = c.enter-register.ensures in
    plan_kept c.args.pass.now c.enter-register.new.token c.enter-register.result e.same e.plan e.seen e.later e.mine c.take.new.self c.number.result c.args.event c.number.ensures c.in-Ok.ensures.ok

pub leave-requires-clause-entries : goal.leave-requires-clause-entries
leave-requires-clause-entries g c κs within = let e = c.enter-register.ensures in
    inr (_, entry_added c.args.pass.now c.enter-register.new.token c.enter-register.result e.same e.plan e.seen e.later e.mine c.take.new.self c.number.result c.args.event c.number.ensures c.in-Ok.ensures.ok)

pub returns-in-Ok-clause-ok : goal.returns-in-Ok-clause-ok
returns-in-Ok-clause-ok g c = let e = c.enter-register.ensures in let l = c.leave.ensures in
    makes c.args.pass.now c.enter-register.new.token c.enter-register.result e.same e.plan e.seen e.later e.mine c.take.new.self c.number.result c.args.event c.number.ensures c.in-Ok.ensures.ok c.leave.new.token c.in-Ok.told c.in-Ok.ensures.told c.in-Ok.ensures.legal l.same l.seen l.one
