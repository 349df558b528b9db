use Rattle.std.proofs.Common.{◌-◌, ◌++◌, length, take, drop, ap, ◌∙◌, arith}
use Rattle.vz_deps.specs.Tracking.{freed, still, meets_any}
use Rattle.vz_surface_manager.specs.Left_out.{due_without}
use Rattle.vz_surface_manager.proofs.{Closed_waits.waits_round, Closed_waits.ready_round, Ticked_waits.still_and_freed, Without.appended}
use Rattle.vz_surface_manager.proofs.waiting.Waiting.activated.Goals as goal

pub returns-clause-waits : goal.returns-clause-waits
returns-clause-waits c w h r is =
    let met = meets_any c.args.ids.now in
    let slice = take (length c.as_slice.result.now - length c.as_slice-before.result.now) (drop (length c.as_slice-before.result.now) c.as_slice.result.now) in
    let gone = appended c.args.out.now.list c.all_activated.new.out.list c.as_slice-before.result.now c.as_slice.result.now _ c.as_slice-before.ensures c.as_slice.ensures c.all_activated.ensures.out in
    waits_round w c.args.ids.now c.args.self.now _ _ h r is
    (gone ∙ ap (λ v. freed met v.blocked) c.self.view_is) (c.all_activated.ensures.list ∙ ap (λ v. still met v.blocked) c.self.view_is)
    (c.clear_all.ensures.list ∙ ap (λ v. due_without slice v.due) c.self.view_is)

pub returns-clause-out : goal.returns-clause-out
returns-clause-out c w h r is =
    let met = meets_any c.args.ids.now in
    c.all_activated.ensures.out ∙ ap (λ l. c.args.out.now.list ++ l) (ap (λ v. freed met v.blocked) c.self.view_is ∙ ready_round w c.args.ids.now c.args.self.now r is)

pub returns-clause-room : goal.returns-clause-room
returns-clause-room c =
    let met = meets_any c.args.ids.now in
    let parts = still_and_freed met c.self.inside.tracker.list in
    let left = ap length c.all_activated.ensures.list in
    let same = ap (λ v. length v.blocked) c.self.view_is in
    omega (arith, parts, left, same, c.all_activated.ensures.room)
