use Rattle.std.proofs.Common.{arith, ap, ◌∙◌}
use Rattle.vz_loans.proofs.Begun.{unused_all, first_unused}
use Rattle.vz_loans.proofs.lock.Lock.deal_all.Goals as goal

pub returns : goal.returns
returns g c = let some_caller = c.self.invariant.3 in let same = ap (λ l. l.callers) c.self.view_is in
    unused_all c.args.self.now.id c.args.seat.me.0.plan c.args.self.now.callers _ _ _ (omega arith) c.deal.ensures.tokens
    (first_unused _ _ c.deal.new.seat.me _ c.args.self.now.callers (c.deal.ensures.same ∙ c.requires.lock) c.deal.ensures.ready) (c.in-Ok.ensures).items
