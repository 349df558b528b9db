use Rattle.std.proofs.Common.{◌≡◌, ◌≤◌, length, take, vec_len, vec_capacity}
use Rattle.viz_run.specs.Schedule.{draws_in}
use Rattle.viz_run.proofs.Schedules.{HasEvents}
use Rattle.viz_run.proofs.schedule.fill.Given as goal

-- the first bytes are events, and there is room for one of each byte
abbrev pub invariant-loop-at : goal.invariant-loop-at
invariant-loop-at l =
    HasEvents l.plan l.bytes l.at l.events.items × (l.draws ≡ draws_in (take l.at l.bytes)) × (length l.bytes ≤ 65536)
    × (l.size ≡ l.plan.size) × (l.clients ≡ length l.plan.files)
    × (vec_len l.events ≤ l.at) × (length l.bytes ≤ vec_capacity l.events)
