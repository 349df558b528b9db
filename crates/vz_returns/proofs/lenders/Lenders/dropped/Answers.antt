use Rattle.std.proofs.Common.{ap, sym, subst, ◌∙◌, length}
use Rattle.vz_returns.specs.{Lent.IsLender, Lent.resources_out, Changes.IsGoing}
use Rattle.vz_returns.proofs.{Changed.here, Changed.gone_enough, Changed.gone_lent, Lent_rooms.out_same}
use Rattle.vz_returns.proofs.lenders.Lenders.dropped.Goals as goal

pub drop_all-requires : goal.drop_all-requires
drop_all-requires c =
    let items = c.self.inside.lenders.items in
    let known = subst (IsLender c.args.client) (sym c.self.view_is) c.requires.known in
    let o = c.index_mut.result.now in
    let is = c.index_mut.ensures.value in
    let x = c.requires.goes in
    gone_enough items c.args.client known o _ is x.0 x.1 c.args.waiting.now c.args.active.now
    (subst (IsGoing x.0 x.1 c.args.client c.args.waiting.now c.args.active.now) (sym c.self.view_is) x.2)

pub returns-clause-lent : goal.returns-clause-lent
returns-clause-lent c = λ w d x.
    let items = c.self.inside.lenders.items in
    let known = subst (IsLender c.args.client) (sym c.self.view_is) c.requires.known in
    let o = c.index_mut.result.now in
    let is = c.index_mut.ensures.value in
    gone_lent items c.args.client known o _ is c.drop_all.new.self w d c.args.waiting.now c.args.active.now c.drop_all.ensures.holding
    c.drop_all.ensures.released
    (subst (IsGoing w d c.args.client c.args.waiting.now c.args.active.now) (sym c.self.view_is) x)

pub returns-clause-out : goal.returns-clause-out
returns-clause-out c =
    let items = c.self.inside.lenders.items in
    let known = subst (IsLender c.args.client) (sym c.self.view_is) c.requires.known in
    let own = here items c.args.client known c.index_mut.result.now _ c.index_mut.ensures.value in
    out_same items _ _ c.drop_all.new.self own (ap (λ h. length h.counted) c.drop_all.ensures.holding) ∙ ap resources_out c.self.view_is
