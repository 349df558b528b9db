use Rattle.std.proofs.Common.{ap, sym, subst, ◌∙◌, length}
use Rattle.vz_returns.specs.Lent.{IsLender, AreLent, NoneReleased, resources_out}
use Rattle.std.proofs.Common.{◌++◌}
use Rattle.vz_returns.proofs.Changed.{here}
use Rattle.vz_returns.proofs.{Lent_rooms.out_same, Lent_rooms.none_released_set, Returns_to_all.its_queue, Returns_to_all.reclaimed_lent}
use Rattle.vz_returns.proofs.lenders.Lenders.reclaim.Goals as goal

pub returns-clause-returned : goal.returns-clause-returned
returns-clause-returned c = λ w d always there number lent.
    let items = c.self.inside.lenders.items in
    let known = subst (IsLender c.args.client) (sym c.self.view_is) c.requires.known in
    let o = c.index_mut.result.now in
    let is = c.index_mut.ensures.value in
    c.take.ensures.out ∙ ap (λ q. c.args.out.now.list ++ q)
    (its_queue items c.args.client known o _ is w d always there number (subst (AreLent w) (sym c.self.view_is) lent))

pub returns-clause-lent : goal.returns-clause-lent
returns-clause-lent c = λ w d always there number lent.
    let items = c.self.inside.lenders.items in
    let known = subst (IsLender c.args.client) (sym c.self.view_is) c.requires.known in
    let o = c.index_mut.result.now in
    let is = c.index_mut.ensures.value in
    reclaimed_lent items c.args.client known o _ is w d always there number (subst (AreLent w) (sym c.self.view_is) lent) c.take.new.self
    c.take.ensures.holding c.take.ensures.released

pub returns-clause-released : goal.returns-clause-released
returns-clause-released c = λ none.
    let items = c.self.inside.lenders.items in
    let known = subst (IsLender c.args.client) (sym c.self.view_is) c.requires.known in
    let o = c.index_mut.result.now in
    let is = c.index_mut.ensures.value in
    none_released_set items _ o c.take.new.self (here items c.args.client known o _ is) c.take.ensures.released
    (subst NoneReleased (sym c.self.view_is) none)

pub returns-clause-out : goal.returns-clause-out
returns-clause-out c =
    let items = c.self.inside.lenders.items in
    let known = subst (IsLender c.args.client) (sym c.self.view_is) c.requires.known in
    let o = c.index_mut.result.now in
    let is = c.index_mut.ensures.value in
    out_same items _ o c.take.new.self (here items c.args.client known o _ is) (ap (λ h. length h.counted) c.take.ensures.holding)
    ∙ ap resources_out c.self.view_is
