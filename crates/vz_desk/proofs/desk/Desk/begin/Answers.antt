use Rattle.std.proofs.Common.{◌+◌, arith, refl, ap}
use Rattle.vz_rules.specs.declared.entry.Event.TheVariants as event
use Rattle.vz_rules.specs.Course.{is_begin}
use Rattle.vz_desk.proofs.Displaying.{quiet_display, leaves_plan, leaves_entries, on_display, on_same, on_displays, note_is, counted_few, begin_counts}
use Rattle.vz_desk.proofs.desk.Desk.begin.Goals as goal

pub invariant_of-d : goal.invariant_of-d
invariant_of-d g c = let e = c.enter-book.ensures in let l = c.leave.ensures in
    (quiet_display c.d.inside.token c.enter-book.new.token c.enter-book.result _ c.d.invariant.0 (record { first = e.same; planned = e.plan; found = e.seen; later = e.later; stays = e.mine; legal = c.reason.ensures.legal }) c.leave.new.token c.enter-book.result.history (record { second = l.same; rests = l.outside; seen = l.seen }) refl, c.d.invariant.1, c.d.invariant.2)

pub invariant_of-d-in-Err : goal.invariant_of-d-in-Err
invariant_of-d-in-Err g c = let e = c.enter-book.ensures in let l = c.leave-in-Err.ensures in
    (quiet_display c.d.inside.token c.enter-book.new.token c.enter-book.result _ c.d.invariant.0 (record { first = e.same; planned = e.plan; found = e.seen; later = e.later; stays = e.mine; legal = c.reason.ensures.legal }) c.leave-in-Err.new.token c.begin.new.self.history (record { second = l.same; rests = l.outside; seen = l.seen }) (ap (λ b. b.history) c.in-Err.ensures.err), c.d.invariant.1, c.d.invariant.2)

pub leave-requires-in-Ok-clause-plan : goal.leave-requires-in-Ok-clause-plan
leave-requires-in-Ok-clause-plan g c = λ κs within. let e = c.enter-book.ensures in leaves_plan c.d.inside.token c.enter-book.new.token c.enter-book.result c.begin.new.self event.Begin _ c.d.invariant.0 (record { first = e.same; planned = e.plan; found = e.seen; later = e.later; stays = e.mine; legal = c.reason.ensures.legal }) refl c.in-Ok.ensures.ok

pub leave-requires-in-Ok-clause-entries : goal.leave-requires-in-Ok-clause-entries
leave-requires-in-Ok-clause-entries g c = λ κs within. let e = c.enter-book.ensures in leaves_entries c.d.inside.token c.enter-book.new.token c.enter-book.result c.begin.new.self event.Begin _ c.d.invariant.0 (record { first = e.same; planned = e.plan; found = e.seen; later = e.later; stays = e.mine; legal = c.reason.ensures.legal }) refl c.in-Ok.ensures.ok

pub invariant_of-d-in-Ok : goal.invariant_of-d-in-Ok
invariant_of-d-in-Ok g c = let e = c.enter-book.ensures in let l = c.leave-in-Ok.ensures in
    (on_display c.d.inside.token c.enter-book.new.token c.enter-book.result c.begin.new.self event.Begin _ c.d.invariant.0 (record { first = e.same; planned = e.plan; found = e.seen; later = e.later; stays = e.mine; legal = c.reason.ensures.legal }) refl c.in-Ok.ensures.ok c.leave-in-Ok.new.token (record { second = l.same; rests = l.outside; seen = l.seen }) (record { begins = c.d.inside.begins + 1; draws = c.d.inside.draws; drawn = c.d.inside.drawn; dones = c.d.inside.dones; in_flight = c.d.inside.in_flight }) (begin_counts _ c.enter-book.result), c.d.invariant.1, c.d.invariant.2)

pub returns-in-Ok-clause-same : goal.returns-in-Ok-clause-same
returns-in-Ok-clause-same g c = let e = c.enter-book.ensures in let l = c.leave-in-Ok.ensures in
    on_same c.d.inside.token c.enter-book.new.token c.enter-book.result c.begin.new.self event.Begin _ c.d.invariant.0 (record { first = e.same; planned = e.plan; found = e.seen; later = e.later; stays = e.mine; legal = c.reason.ensures.legal }) refl c.in-Ok.ensures.ok c.leave-in-Ok.new.token (record { second = l.same; rests = l.outside; seen = l.seen }) (record { begins = c.d.inside.begins + 1; draws = c.d.inside.draws; drawn = c.d.inside.drawn; dones = c.d.inside.dones; in_flight = c.d.inside.in_flight }) (begin_counts _ c.enter-book.result) _ c.d.view_is

pub returns-in-Ok-clause-ok : goal.returns-in-Ok-clause-ok
returns-in-Ok-clause-ok g c = let e = c.enter-book.ensures in let l = c.leave-in-Ok.ensures in
    (on_displays c.d.inside.token c.enter-book.new.token c.enter-book.result c.begin.new.self event.Begin _ c.d.invariant.0 (record { first = e.same; planned = e.plan; found = e.seen; later = e.later; stays = e.mine; legal = c.reason.ensures.legal }) refl c.in-Ok.ensures.ok c.leave-in-Ok.new.token (record { second = l.same; rests = l.outside; seen = l.seen }) (record { begins = c.d.inside.begins + 1; draws = c.d.inside.draws; drawn = c.d.inside.drawn; dones = c.d.inside.dones; in_flight = c.d.inside.in_flight }) (begin_counts _ c.enter-book.result) _ c.d.view_is l.one, note_is c.enter-book.result c.begin.new.self event.Begin _ _ c.in-Ok.ensures.ok c.plain_note.ensures c.places-place.ensures.value)

pub overflow_add-d : goal.overflow_add-d
overflow_add-d g c = let place = c.places-place.type_inv in let e = c.enter-book.ensures in let l = c.leave-in-Ok.ensures in
    let few = counted_few is_begin c.begin.new.self.history (c.d.inside.begins + 1) _ (on_display c.d.inside.token c.enter-book.new.token c.enter-book.result c.begin.new.self event.Begin _ c.d.invariant.0 (record { first = e.same; planned = e.plan; found = e.seen; later = e.later; stays = e.mine; legal = c.reason.ensures.legal }) refl c.in-Ok.ensures.ok c.leave-in-Ok.new.token (record { second = l.same; rests = l.outside; seen = l.seen }) (record { begins = c.d.inside.begins + 1; draws = c.d.inside.draws; drawn = c.d.inside.drawn; dones = c.d.inside.dones; in_flight = c.d.inside.in_flight }) (begin_counts _ c.enter-book.result)).counted.begins c.places-place.ensures.value in omega arith
