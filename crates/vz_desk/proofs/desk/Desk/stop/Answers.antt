use Rattle.std.proofs.Common.{ap, sym, subst, ◌∙◌}
use mathlib.Core.List.{IsPrefix}
use Rattle.vz_loans.specs.Rule.{places}
use Rattle.vz_rules.specs.Step.{Legal}
use Rattle.vz_desk.specs.Books.{numbered}
use Rattle.vz_desk.proofs.Owning.{turned_end}
use Rattle.vz_desk.proofs.desk.Desk.stop.Goals as goal

pub invariant_of-by : goal.invariant_of-by
invariant_of-by g c = let same = ap (λ b. b.history) c.stop.ensures.value in let seen = c.enter-book.ensures.seen ∙ ap numbered (sym same) in
    turned_end c.by.inside.token c.enter-book.new.token c.leave.new.token c.enter-book.result.plan c.stop.new.self.history _ c.by.invariant record {
      first = c.enter-book.ensures.same;
      second = c.leave.ensures.same;
      planned = c.enter-book.ensures.plan;
      seen = c.leave.ensures.seen;
      later = subst (IsPrefix _) seen c.enter-book.ensures.later;
      mine = ap (places _) (sym seen) ∙ c.enter-book.ensures.mine;
      rests = c.leave.ensures.outside;
      legal = subst (λ p. Legal p c.stop.new.self.history) (ap (λ b. b.plan) c.stop.ensures.value) c.stop.ensures.legal;
    }
