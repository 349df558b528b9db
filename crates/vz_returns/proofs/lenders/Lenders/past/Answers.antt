use Rattle.std.proofs.Common.{ap, sym, subst, ◌∙◌, length}
use Rattle.vz_returns.specs.{Lent.IsLender, Lent.resources_out, Changes.IsRising}
use Rattle.vz_returns.proofs.{Changed.here, Changed.past_enough, Changed.past_lent, Lent_rooms.out_same}
use Rattle.vz_returns.proofs.lenders.Lenders.past.Goals as goal

pub release_all-requires : goal.release_all-requires
release_all-requires c =
    let items = c.self.inside.lenders.items in
    let known = subst (IsLender c.args.client) (sym c.self.view_is) c.requires.known in
    let o = c.index_mut.result.now in
    let is = c.index_mut.ensures.value in
    let x = c.requires.rises in
    past_enough items c.args.client known o _ is x.0 x.1 c.args.listings.now
    (subst (IsRising x.0 x.1 c.args.client c.args.listings.now) (sym c.self.view_is) x.2)

pub returns-clause-lent : goal.returns-clause-lent
returns-clause-lent c = λ w s x.
    let items = c.self.inside.lenders.items in
    let known = subst (IsLender c.args.client) (sym c.self.view_is) c.requires.known in
    let o = c.index_mut.result.now in
    let is = c.index_mut.ensures.value in
    past_lent items c.args.client known o _ is c.release_all.new.self w s c.args.listings.now c.release_all.ensures.holding
    c.release_all.ensures.released
    (subst (IsRising w s c.args.client c.args.listings.now) (sym c.self.view_is) x)

pub returns-clause-out : goal.returns-clause-out
returns-clause-out c =
    let items = c.self.inside.lenders.items in
    let known = subst (IsLender c.args.client) (sym c.self.view_is) c.requires.known in
    let own = here items c.args.client known c.index_mut.result.now _ c.index_mut.ensures.value in
    out_same items _ _ c.release_all.new.self own (ap (λ h. length h.counted) c.release_all.ensures.holding)
    ∙ ap resources_out c.self.view_is
