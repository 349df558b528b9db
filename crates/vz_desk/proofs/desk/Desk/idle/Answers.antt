use Rattle.std.proofs.Common.{ap, sym, subst, ◌∙◌}
use mathlib.Core.List.{IsPrefix}
use Rattle.vz_loans.specs.Rule.{places}
use Rattle.vz_desk.proofs.Owning.{turned_end}
use Rattle.vz_desk.proofs.desk.Desk.idle.Goals as goal

pub invariant_of-end : goal.invariant_of-end
invariant_of-end g c = let seen = c.enter-book.ensures.seen in
    turned_end c.end.inside.token c.enter-book.new.token c.leave.new.token c.enter-book.result.plan c.enter-book.result.history _ c.end.invariant record {
      first = c.enter-book.ensures.same;
      second = c.leave.ensures.same;
      planned = c.enter-book.ensures.plan;
      seen = c.leave.ensures.seen;
      later = subst (IsPrefix _) seen c.enter-book.ensures.later;
      mine = ap (places _) (sym seen) ∙ c.enter-book.ensures.mine;
      rests = c.leave.ensures.outside;
      legal = c.idle-idle.ensures.legal;
    }
