use Rattle.std.proofs.Common.{ap, sym, subst, ◌∙◌, length}
use Rattle.vz_returns.specs.Lent.{IsLender, AreLent}
use Rattle.vz_returns.proofs.Returns_to_all.{its_queue}
use Rattle.vz_returns.proofs.lenders.Lenders.queued.Goals as goal

pub returns-clause-queue : goal.returns-clause-queue
returns-clause-queue c = λ w d always there number lent.
    let items = c.self.inside.lenders.items in
    let known = subst (IsLender c.args.client) (sym c.self.view_is) c.requires.known in
    let o = c.index.result.now in
    let is = c.index.ensures in
    c.queued.ensures ∙ ap length (its_queue items c.args.client known o _ is w d always there number
    (subst (AreLent w) (sym c.self.view_is) lent))
