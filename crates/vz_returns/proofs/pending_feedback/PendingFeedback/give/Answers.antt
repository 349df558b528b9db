use Rattle.std.proofs.Common.{◌++◌, IsPermutation, ap, sym, subst, ◌∙◌}
use Rattle.std.specs.List.Sorted.{IsNonDecreasingBy}
use Rattle.vz_returns.specs.declared.due.Due.{Due}
use Rattle.vz_returns.proofs.Due_order.{fed_in_order}
use Rattle.vz_returns.proofs.pending_feedback.PendingFeedback.give.Goals as goal

pub returns-clause-fed : goal.returns-clause-fed
returns-clause-fed c = λ gets subs o.
    let order = subst (λ l. IsNonDecreasingBy (λ (d : Due). d.place) l) (sym c.deref.ensures.value) c.sort.ensures.order in
    let same = subst (λ l. IsPermutation c.self.inside.due.items l) (sym c.deref.ensures.value) c.sort.ensures.same in
    let all = subst (λ v. IsPermutation v.owed.due c.deref.result.now) c.self.view_is same in
    c.put_all.ensures.list ∙ ap (λ l. c.args.out.now.list ++ l) (fed_in_order gets subs c.args.self.now.owed c.deref.result.now o all order)
