use Rattle.std.proofs.Common.{◌≡◌, ◌+◌, ◌-◌, length, vec_len, vec_capacity, ap, sym, arith}
use Rattle.vz_returns.specs.Notes.{owed_count}
use Rattle.vz_returns.proofs.Open_places.{kept_noted, count_noted}
use Rattle.vz_returns.proofs.pending_feedback.PendingFeedback.note.Goals as goal

pub invariant_of-self-2 : goal.invariant_of-self-2
invariant_of-self-2 c =
    let inside = c.self.inside in
    let fewer : length c.take.new.self.places + 1 ≡ length inside.unfed.places = c.in-Some-take.ensures.len in
    let room = c.self.invariant.room in
    kept_noted inside.unfed.list c.take.new.self.list inside.unfed.places c.take.new.self.places c.in-Some.sub c.in-Some-take.place (vec_capacity inside.due - vec_len inside.due) _ c.self.invariant
    c.take.ensures.list c.in-Some-take.ensures.value c.take.ensures.places fewer
    (omega (arith, fewer, room, c.push_reserved.ensures.len, c.push_reserved.ensures.capacity))

pub returns-clause-count : goal.returns-clause-count
returns-clause-count c =
    let inside = c.self.inside in
    let fewer = count_noted inside.unfed.list c.take.new.self.list inside.unfed.places c.in-Some.sub c.in-Some-take.place
    (vec_capacity inside.due - vec_len inside.due) c.self.invariant c.take.ensures.list c.in-Some-take.ensures.value in
    let same : owed_count c.args.self.now.owed ≡ length inside.unfed.list + length inside.due.items =
    ap (λ v. owed_count v.owed) (sym c.self.view_is) in
    omega (arith, fewer, same, c.push_reserved.ensures.len)
