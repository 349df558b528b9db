use Rattle.std.proofs.Common.{◌+◌, arith, refl, ap, sym, true, ◌∙◌}
use Rattle.vz_rules.specs.declared.entry.Event.TheVariants as event
use Rattle.vz_rules.specs.Course.{is_draw}
use Rattle.vz_desk.specs.Totals.{draws_frame}
use Rattle.vz_desk.proofs.Displaying.{flies_there, quiet_display, leaves_plan, leaves_entries, counts_on, on_display, on_same, on_displays, note_is, counted_few, draw_counts, other_counts}
use Rattle.vz_desk.proofs.Showing.{shows_some, shows_none, drew_some, drew_none, draws_one, never_busy}
use Rattle.vz_desk.proofs.desk.Desk.draw.Goals as goal

pub invariant_of-d : goal.invariant_of-d
invariant_of-d g c = let e = c.enter-book.ensures in let l = c.leave.ensures in
    (quiet_display c.d.inside.token c.enter-book.new.token c.enter-book.result _ c.d.invariant.0 (record { first = e.same; planned = e.plan; found = e.seen; later = e.later; stays = e.mine; legal = c.reason.ensures.legal }) c.leave.new.token c.enter-book.result.history (record { second = l.same; rests = l.outside; seen = l.seen }) refl, c.d.invariant.1, c.d.invariant.2)

pub invariant_of-d-in-Err : goal.invariant_of-d-in-Err
invariant_of-d-in-Err g c = let e = c.enter-book.ensures in let l = c.leave-in-Err.ensures in
    (quiet_display c.d.inside.token c.enter-book.new.token c.enter-book.result _ c.d.invariant.0 (record { first = e.same; planned = e.plan; found = e.seen; later = e.later; stays = e.mine; legal = c.reason.ensures.legal }) c.leave-in-Err.new.token c.draw.new.self.history (record { second = l.same; rests = l.outside; seen = l.seen }) (ap (λ b. b.history) c.in-Err.ensures.err), c.d.invariant.1, c.d.invariant.2)

pub leave-requires-in-Ok-clause-plan : goal.leave-requires-in-Ok-clause-plan
leave-requires-in-Ok-clause-plan g c = λ κs within. let e = c.enter-book.ensures in leaves_plan c.d.inside.token c.enter-book.new.token c.enter-book.result c.draw.new.self event.Draw _ c.d.invariant.0 (record { first = e.same; planned = e.plan; found = e.seen; later = e.later; stays = e.mine; legal = c.reason.ensures.legal }) refl c.in-Ok.ensures.ok

pub leave-requires-in-Ok-clause-entries : goal.leave-requires-in-Ok-clause-entries
leave-requires-in-Ok-clause-entries g c = λ κs within. let e = c.enter-book.ensures in leaves_entries c.d.inside.token c.enter-book.new.token c.enter-book.result c.draw.new.self event.Draw _ c.d.invariant.0 (record { first = e.same; planned = e.plan; found = e.seen; later = e.later; stays = e.mine; legal = c.reason.ensures.legal }) refl c.in-Ok.ensures.ok

pub overflow_add-d : goal.overflow_add-d
overflow_add-d g c = let place = c.places-place.type_inv in let e = c.enter-book.ensures in
    let few = counted_few is_draw c.draw.new.self.history (c.d.inside.draws + 1) _ (sym (draws_one (record { begins = c.d.inside.begins; draws = c.d.inside.draws; drawn = c.d.inside.drawn; dones = c.d.inside.dones; in_flight = c.d.inside.in_flight }) c.enter-book.result) ∙ (counts_on c.d.inside.token c.enter-book.new.token c.enter-book.result c.draw.new.self event.Draw _ c.d.invariant.0 (record { first = e.same; planned = e.plan; found = e.seen; later = e.later; stays = e.mine; legal = c.reason.ensures.legal }) refl c.in-Ok.ensures.ok).draws) c.places-place.ensures.value in omega arith

pub overflow_add-d-in-Some-picture : goal.overflow_add-d-in-Some-picture
overflow_add-d-in-Some-picture g c = let place = c.places-place.type_inv in let e = c.enter-book.ensures in let l = c.leave-in-Ok.ensures in
    let few = counted_few draws_frame c.draw.new.self.history (c.d.inside.drawn + 1) _ (on_display c.d.inside.token c.enter-book.new.token c.enter-book.result c.draw.new.self event.Draw _ c.d.invariant.0 (record { first = e.same; planned = e.plan; found = e.seen; later = e.later; stays = e.mine; legal = c.reason.ensures.legal }) refl c.in-Ok.ensures.ok c.leave-in-Ok.new.token (record { second = l.same; rests = l.outside; seen = l.seen }) (record { begins = c.d.inside.begins; draws = c.d.inside.draws + 1; drawn = c.d.inside.drawn + 1; dones = c.d.inside.dones; in_flight = true }) (draw_counts _ c.enter-book.result (drew_some c.enter-book.result g.M.Picture.Picture.pictured c.in-Ok.picture c.in-Ok.ensures.picture c.in-Some-picture.picture c.in-Some-picture.is))).counted.drawn c.places-place.ensures.value in omega arith

pub invariant_of-d-in-Some-picture : goal.invariant_of-d-in-Some-picture
invariant_of-d-in-Some-picture g c = let e = c.enter-book.ensures in let l = c.leave-in-Ok.ensures in
    (on_display c.d.inside.token c.enter-book.new.token c.enter-book.result c.draw.new.self event.Draw _ c.d.invariant.0 (record { first = e.same; planned = e.plan; found = e.seen; later = e.later; stays = e.mine; legal = c.reason.ensures.legal }) refl c.in-Ok.ensures.ok c.leave-in-Ok.new.token (record { second = l.same; rests = l.outside; seen = l.seen }) (record { begins = c.d.inside.begins; draws = c.d.inside.draws + 1; drawn = c.d.inside.drawn + 1; dones = c.d.inside.dones; in_flight = true }) (draw_counts _ c.enter-book.result (drew_some c.enter-book.result g.M.Picture.Picture.pictured c.in-Ok.picture c.in-Ok.ensures.picture c.in-Some-picture.picture c.in-Some-picture.is)), c.d.invariant.1, c.d.invariant.2)

pub invariant_of-d-in-None : goal.invariant_of-d-in-None
invariant_of-d-in-None g c = let e = c.enter-book.ensures in let l = c.leave-in-Ok.ensures in
    (on_display c.d.inside.token c.enter-book.new.token c.enter-book.result c.draw.new.self event.Draw _ c.d.invariant.0 (record { first = e.same; planned = e.plan; found = e.seen; later = e.later; stays = e.mine; legal = c.reason.ensures.legal }) refl c.in-Ok.ensures.ok c.leave-in-Ok.new.token (record { second = l.same; rests = l.outside; seen = l.seen }) (record { begins = c.d.inside.begins; draws = c.d.inside.draws + 1; drawn = c.d.inside.drawn; dones = c.d.inside.dones; in_flight = c.d.inside.in_flight }) (other_counts _ c.enter-book.result (drew_none c.enter-book.result g.M.Picture.Picture.pictured c.in-Ok.picture c.in-Ok.ensures.picture c.in-None.is)), c.d.invariant.1, c.d.invariant.2)

pub returns-in-Some-picture-clause-same : goal.returns-in-Some-picture-clause-same
returns-in-Some-picture-clause-same g c = let e = c.enter-book.ensures in let l = c.leave-in-Ok.ensures in
    on_same c.d.inside.token c.enter-book.new.token c.enter-book.result c.draw.new.self event.Draw _ c.d.invariant.0 (record { first = e.same; planned = e.plan; found = e.seen; later = e.later; stays = e.mine; legal = c.reason.ensures.legal }) refl c.in-Ok.ensures.ok c.leave-in-Ok.new.token (record { second = l.same; rests = l.outside; seen = l.seen }) (record { begins = c.d.inside.begins; draws = c.d.inside.draws + 1; drawn = c.d.inside.drawn + 1; dones = c.d.inside.dones; in_flight = true }) (draw_counts _ c.enter-book.result (drew_some c.enter-book.result g.M.Picture.Picture.pictured c.in-Ok.picture c.in-Ok.ensures.picture c.in-Some-picture.picture c.in-Some-picture.is)) _ c.d.view_is

pub returns-in-None-clause-same : goal.returns-in-None-clause-same
returns-in-None-clause-same g c = let e = c.enter-book.ensures in let l = c.leave-in-Ok.ensures in
    on_same c.d.inside.token c.enter-book.new.token c.enter-book.result c.draw.new.self event.Draw _ c.d.invariant.0 (record { first = e.same; planned = e.plan; found = e.seen; later = e.later; stays = e.mine; legal = c.reason.ensures.legal }) refl c.in-Ok.ensures.ok c.leave-in-Ok.new.token (record { second = l.same; rests = l.outside; seen = l.seen }) (record { begins = c.d.inside.begins; draws = c.d.inside.draws + 1; drawn = c.d.inside.drawn; dones = c.d.inside.dones; in_flight = c.d.inside.in_flight }) (other_counts _ c.enter-book.result (drew_none c.enter-book.result g.M.Picture.Picture.pictured c.in-Ok.picture c.in-Ok.ensures.picture c.in-None.is)) _ c.d.view_is

pub returns-in-Some-picture-clause-ok : goal.returns-in-Some-picture-clause-ok
returns-in-Some-picture-clause-ok g c = let e = c.enter-book.ensures in let l = c.leave-in-Ok.ensures in (
  ap (λ t. t.lock) c.of.ensures ∙ l.same.0 ∙ e.same.0 ∙ ap (λ o. o.desk) c.d.view_is,
  record {
    displays = on_displays c.d.inside.token c.enter-book.new.token c.enter-book.result c.draw.new.self event.Draw _ c.d.invariant.0 (record { first = e.same; planned = e.plan; found = e.seen; later = e.later; stays = e.mine; legal = c.reason.ensures.legal }) refl c.in-Ok.ensures.ok c.leave-in-Ok.new.token (record { second = l.same; rests = l.outside; seen = l.seen }) (record { begins = c.d.inside.begins; draws = c.d.inside.draws + 1; drawn = c.d.inside.drawn + 1; dones = c.d.inside.dones; in_flight = true }) (draw_counts _ c.enter-book.result (drew_some c.enter-book.result g.M.Picture.Picture.pictured c.in-Ok.picture c.in-Ok.ensures.picture c.in-Some-picture.picture c.in-Some-picture.is)) _ c.d.view_is l.one;
    shows = shows_some c.enter-book.result g.M.Picture.Picture.pictured c.in-Ok.picture c.in-Ok.ensures.picture c.in-Some-picture.picture c.in-Some-picture.is;
    free = λ lands. never_busy c.enter-book.result (flies_there c.d.inside.token c.enter-book.new.token c.enter-book.result _ c.d.invariant.0 (record { first = e.same; planned = e.plan; found = e.seen; later = e.later; stays = e.mine; legal = c.reason.ensures.legal }) ∙ ap (λ o. o.totals.in_flight) c.d.view_is ∙ lands);
  },
)

pub returns-in-None-clause-ok : goal.returns-in-None-clause-ok
returns-in-None-clause-ok g c = let e = c.enter-book.ensures in let l = c.leave-in-Ok.ensures in (
  record {
    displays = on_displays c.d.inside.token c.enter-book.new.token c.enter-book.result c.draw.new.self event.Draw _ c.d.invariant.0 (record { first = e.same; planned = e.plan; found = e.seen; later = e.later; stays = e.mine; legal = c.reason.ensures.legal }) refl c.in-Ok.ensures.ok c.leave-in-Ok.new.token (record { second = l.same; rests = l.outside; seen = l.seen }) (record { begins = c.d.inside.begins; draws = c.d.inside.draws + 1; drawn = c.d.inside.drawn; dones = c.d.inside.dones; in_flight = c.d.inside.in_flight }) (other_counts _ c.enter-book.result (drew_none c.enter-book.result g.M.Picture.Picture.pictured c.in-Ok.picture c.in-Ok.ensures.picture c.in-None.is)) _ c.d.view_is l.one;
    shows = shows_none c.enter-book.result g.M.Picture.Picture.pictured c.in-Ok.picture c.in-Ok.ensures.picture c.in-None.is;
    free = λ lands. never_busy c.enter-book.result (flies_there c.d.inside.token c.enter-book.new.token c.enter-book.result _ c.d.invariant.0 (record { first = e.same; planned = e.plan; found = e.seen; later = e.later; stays = e.mine; legal = c.reason.ensures.legal }) ∙ ap (λ o. o.totals.in_flight) c.d.view_is ∙ lands);
  },
  note_is c.enter-book.result c.draw.new.self event.Draw _ _ c.in-Ok.ensures.ok c.plain_note.ensures c.places-place.ensures.value,
)
