use Rattle.std.proofs.Common.{refl, ap, sym, ◌∙◌}
use Rattle.vz_desk.specs.Books.{numbered}
use Rattle.vz_desk.proofs.{Displaying.quiet_display, Pausing.paused}
use Rattle.vz_desk.proofs.desk.Desk.look.Goals as goal

pub invariant_of-d : goal.invariant_of-d
invariant_of-d g c = let e = c.enter-book.ensures in let l = c.leave.ensures in
    (quiet_display c.d.inside.token c.enter-book.new.token c.enter-book.result _ c.d.invariant.0 (record { first = e.same; planned = e.plan; found = e.seen; later = e.later; stays = e.mine; legal = c.reason.ensures.legal }) c.leave.new.token c.enter-book.result.history (record { second = l.same; rests = l.outside; seen = l.seen }) refl, c.d.invariant.1, c.d.invariant.2)

pub invariant_of-d-2 : goal.invariant_of-d-2
invariant_of-d-2 g c = let e = c.enter-book.ensures in let l = c.leave-2.ensures in
    (quiet_display c.d.inside.token c.enter-book.new.token c.enter-book.result _ c.d.invariant.0 (record { first = e.same; planned = e.plan; found = e.seen; later = e.later; stays = e.mine; legal = c.reason.ensures.legal }) c.leave-2.new.token c.pause-calm.new.self.history (record { second = l.same; rests = l.outside; seen = l.seen }) (ap (λ b. b.history) c.pause-calm.ensures.same), c.d.invariant.1, c.d.invariant.2)

pub returns-clause-calm : goal.returns-clause-calm
returns-clause-calm g c = λ calm. let e = c.enter-book.ensures in let l = c.leave-2.ensures in
    paused c.d.inside.token c.enter-book.new.token c.leave-2.new.token c.enter-book.result _ (record { first = e.same; planned = e.plan; found = e.seen; later = e.later; stays = e.mine; legal = c.reason.ensures.legal }) (record { second = l.same; rests = l.outside; seen = l.seen ∙ ap (λ b. numbered b.history) c.pause-calm.ensures.same }) (sym c.pause-calm.ensures.calm ∙ calm)
