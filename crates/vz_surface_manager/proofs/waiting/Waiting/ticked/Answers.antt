use Rattle.std.proofs.Common.{◌-◌, ◌++◌, length, take, drop, ap, ◌∙◌, arith}
use Rattle.vz_deadlines.specs.Timing.{due_at, left_at}
use Rattle.vz_surface_manager.specs.Left_out.{blocked_without}
use Rattle.vz_surface_manager.proofs.{Ticked_waits.waits_ticked, Ticked_waits.ready_ticked, Ticked_waits.left_and_due, Without.appended}
use Rattle.vz_surface_manager.proofs.waiting.Waiting.ticked.Goals as goal

pub returns-clause-waits : goal.returns-clause-waits
returns-clause-waits c w p h none r is =
    let n = c.args.tick in
    let slice = take (length c.as_slice.result.now - length c.as_slice-before.result.now) (drop (length c.as_slice-before.result.now) c.as_slice.result.now) in
    let gone = appended c.args.out.now.list c.begin.new.out.list c.as_slice-before.result.now c.as_slice.result.now _ c.as_slice-before.ensures c.as_slice.ensures c.begin.ensures.out in
    waits_ticked w p n c.args.self.now _ _ h none r is (gone ∙ ap (λ v. due_at n v.due) c.self.view_is) (c.begin.ensures.list ∙ ap (λ v. left_at n v.due) c.self.view_is)
    (c.forget_all.ensures.list ∙ ap (λ v. blocked_without slice v.blocked) c.self.view_is)

pub returns-clause-out : goal.returns-clause-out
returns-clause-out c w p h none r is =
    let n = c.args.tick in
    c.begin.ensures.out ∙ ap (λ l. c.args.out.now.list ++ l) (ap (λ v. due_at n v.due) c.self.view_is ∙ ready_ticked w p n c.args.self.now none r is)

pub returns-clause-room : goal.returns-clause-room
returns-clause-room c =
    let parts = left_and_due c.args.tick c.self.inside.deadlines.list in
    let left = ap length c.begin.ensures.list in
    let same = ap (λ v. length v.due) c.self.view_is in
    omega (arith, parts, left, same, c.begin.ensures.room)
