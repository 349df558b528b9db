use Rattle.std.proofs.Common.{ap, subst}
use Rattle.vz_rules.specs.Step.{Legal}
use Rattle.vz_desk.proofs.Displaying.{quiet_display}
use Rattle.vz_desk.proofs.desk.Desk.stop_display.Goals as goal

pub invariant_of-by : goal.invariant_of-by
invariant_of-by g c = let e = c.enter-book.ensures in let l = c.leave.ensures in let same = c.stop.ensures.value in (
  quiet_display c.by.inside.token c.enter-book.new.token c.enter-book.result _ c.by.invariant.0
      (record { first = e.same; planned = e.plan; found = e.seen; later = e.later; stays = e.mine; legal = subst (λ b. Legal b.plan b.history) same c.stop.ensures.legal })
      c.leave.new.token c.stop.new.self.history (record { second = l.same; rests = l.outside; seen = l.seen }) (ap (λ b. b.history) same),
  c.by.invariant.1,
  c.by.invariant.2,
)
