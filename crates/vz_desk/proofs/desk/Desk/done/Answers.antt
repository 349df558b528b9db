use denote.Param.Send.{param_send}
use Rattle.std.proofs.Common.{◌+◌, arith, refl, ap, false, ◌∙◌}
use Rattle.vz_rules.specs.declared.entry.Event.TheVariants as event
use Rattle.vz_desk.specs.Totals.{is_done}
use Rattle.vz_desk.proofs.Displaying.{leaves_plan, leaves_entries, on_display, on_same, on_displays, counted_few, done_counts, done_shown, flies_there, booked_length}
use Rattle.vz_desk.proofs.desk.Desk.done.Goals as goal

pub done-requires : goal.done-requires
done-requires g c = let e = c.enter-book.ensures in (param_send 3 _ c.type_bounds.send-M-Picture-Thin, flies_there c.d.inside.token c.enter-book.new.token c.enter-book.result _ c.d.invariant.0 (record { first = e.same; planned = e.plan; found = e.seen; later = e.later; stays = e.mine; legal = c.places.ensures.legal }) ∙ ap (λ o. o.totals.in_flight) c.d.view_is ∙ c.requires.flies)

pub leave-requires-clause-plan : goal.leave-requires-clause-plan
leave-requires-clause-plan g c = λ κs within. let e = c.enter-book.ensures in leaves_plan c.d.inside.token c.enter-book.new.token c.enter-book.result c.done.new.self event.Done _ c.d.invariant.0 (record { first = e.same; planned = e.plan; found = e.seen; later = e.later; stays = e.mine; legal = c.places.ensures.legal }) refl c.done.ensures

pub leave-requires-clause-entries : goal.leave-requires-clause-entries
leave-requires-clause-entries g c = λ κs within. let e = c.enter-book.ensures in leaves_entries c.d.inside.token c.enter-book.new.token c.enter-book.result c.done.new.self event.Done _ c.d.invariant.0 (record { first = e.same; planned = e.plan; found = e.seen; later = e.later; stays = e.mine; legal = c.places.ensures.legal }) refl c.done.ensures

pub overflow_add-d : goal.overflow_add-d
overflow_add-d g c = let e = c.enter-book.ensures in let l = c.leave.ensures in
    let few = counted_few is_done c.done.new.self.history (c.d.inside.dones + 1) _ (on_display c.d.inside.token c.enter-book.new.token c.enter-book.result c.done.new.self event.Done _ c.d.invariant.0 (record { first = e.same; planned = e.plan; found = e.seen; later = e.later; stays = e.mine; legal = c.places.ensures.legal }) refl c.done.ensures c.leave.new.token (record { second = l.same; rests = l.outside; seen = l.seen }) (record { begins = c.d.inside.begins; draws = c.d.inside.draws; drawn = c.d.inside.drawn; dones = c.d.inside.dones + 1; in_flight = false }) (done_counts _ c.enter-book.result)).counted.dones refl in let long = booked_length c.enter-book.result c.done.new.self event.Done c.done.ensures in let place = c.places.ensures.value in let small = c.if-prove.false in omega arith

pub invariant_of-d : goal.invariant_of-d
invariant_of-d g c = let e = c.enter-book.ensures in let l = c.leave.ensures in
    (on_display c.d.inside.token c.enter-book.new.token c.enter-book.result c.done.new.self event.Done _ c.d.invariant.0 (record { first = e.same; planned = e.plan; found = e.seen; later = e.later; stays = e.mine; legal = c.places.ensures.legal }) refl c.done.ensures c.leave.new.token (record { second = l.same; rests = l.outside; seen = l.seen }) (record { begins = c.d.inside.begins; draws = c.d.inside.draws; drawn = c.d.inside.drawn; dones = c.d.inside.dones + 1; in_flight = false }) (done_counts _ c.enter-book.result), c.d.invariant.1, c.d.invariant.2)

pub returns-clause-same : goal.returns-clause-same
returns-clause-same g c = let e = c.enter-book.ensures in let l = c.leave.ensures in
    on_same c.d.inside.token c.enter-book.new.token c.enter-book.result c.done.new.self event.Done _ c.d.invariant.0 (record { first = e.same; planned = e.plan; found = e.seen; later = e.later; stays = e.mine; legal = c.places.ensures.legal }) refl c.done.ensures c.leave.new.token (record { second = l.same; rests = l.outside; seen = l.seen }) (record { begins = c.d.inside.begins; draws = c.d.inside.draws; drawn = c.d.inside.drawn; dones = c.d.inside.dones + 1; in_flight = false }) (done_counts _ c.enter-book.result) _ c.d.view_is

pub returns-clause-done : goal.returns-clause-done
returns-clause-done g c = let e = c.enter-book.ensures in let l = c.leave.ensures in
    (on_displays c.d.inside.token c.enter-book.new.token c.enter-book.result c.done.new.self event.Done _ c.d.invariant.0 (record { first = e.same; planned = e.plan; found = e.seen; later = e.later; stays = e.mine; legal = c.places.ensures.legal }) refl c.done.ensures c.leave.new.token (record { second = l.same; rests = l.outside; seen = l.seen }) (record { begins = c.d.inside.begins; draws = c.d.inside.draws; drawn = c.d.inside.drawn; dones = c.d.inside.dones + 1; in_flight = false }) (done_counts _ c.enter-book.result) _ c.d.view_is l.one, done_shown c.enter-book.result (flies_there c.d.inside.token c.enter-book.new.token c.enter-book.result _ c.d.invariant.0 (record { first = e.same; planned = e.plan; found = e.seen; later = e.later; stays = e.mine; legal = c.places.ensures.legal }) ∙ ap (λ o. o.totals.in_flight) c.d.view_is ∙ c.requires.flies))
