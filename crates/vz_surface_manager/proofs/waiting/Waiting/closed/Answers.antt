use Rattle.std.proofs.Common.{◌-◌, ◌++◌, length, take, drop, ap, ◌∙◌, arith}
use Rattle.vz_deps.specs.Tracking.{freed, still, is_of_sink}
use Rattle.vz_surface_manager.specs.Left_out.{due_without}
use Rattle.vz_surface_manager.proofs.{Closed_waits.waits_closed, Closed_waits.ready_closed, Ticked_waits.still_and_freed, Without.appended}
use Rattle.vz_surface_manager.proofs.waiting.Waiting.closed.Goals as goal

pub returns-clause-waits : goal.returns-clause-waits
returns-clause-waits c w d h at none r is =
    let met = is_of_sink c.args.sink in
    let slice = take (length c.as_slice.result.now - length c.as_slice-before.result.now) (drop (length c.as_slice-before.result.now) c.as_slice.result.now) in
    let gone = appended c.args.out.now.list c.sink_gone.new.out.list c.as_slice-before.result.now c.as_slice.result.now _ c.as_slice-before.ensures c.as_slice.ensures c.sink_gone.ensures.out in
    waits_closed w d c.args.sink c.args.self.now _ _ h at r is
    (gone ∙ ap (λ v. freed met v.blocked) c.self.view_is) (c.sink_gone.ensures.list ∙ ap (λ v. still met v.blocked) c.self.view_is)
    (c.clear_all.ensures.list ∙ ap (λ v. due_without slice v.due) c.self.view_is)

pub returns-clause-out : goal.returns-clause-out
returns-clause-out c w d h at none r is =
    let met = is_of_sink c.args.sink in
    c.sink_gone.ensures.out ∙ ap (λ l. c.args.out.now.list ++ l) (ap (λ v. freed met v.blocked) c.self.view_is ∙ ready_closed w d c.args.sink c.args.self.now h at none r is)

pub returns-clause-room : goal.returns-clause-room
returns-clause-room c =
    let met = is_of_sink c.args.sink in
    let parts = still_and_freed met c.self.inside.tracker.list in
    let left = ap length c.sink_gone.ensures.list in
    let same = ap (λ v. length v.blocked) c.self.view_is in
    omega (arith, parts, left, same, c.sink_gone.ensures.room)
