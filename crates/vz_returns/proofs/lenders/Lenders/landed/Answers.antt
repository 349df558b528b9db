use Rattle.std.proofs.Common.{ap, sym, subst, ◌∙◌, length}
use Rattle.vz_returns.specs.{Lent.IsLender, Lent.resources_out, Changes.IsDone}
use Rattle.vz_returns.proofs.{Changed.here, Changed.done_enough, Changed.done_lent, Lent_rooms.out_same}
use Rattle.vz_returns.proofs.lenders.Lenders.landed.Goals as goal

pub release_all-requires : goal.release_all-requires
release_all-requires c =
    let items = c.self.inside.lenders.items in
    let known = subst (IsLender c.args.client) (sym c.self.view_is) c.requires.known in
    let o = c.index_mut.result.now in
    let is = c.index_mut.ensures.value in
    let x = c.requires.done in
    done_enough items c.args.client known o _ is x.0 x.1 x.2 c.args.listings.now
    (subst (IsDone x.0 x.1 x.2 c.args.client c.args.listings.now) (sym c.self.view_is) x.3)

pub returns-clause-lent : goal.returns-clause-lent
returns-clause-lent c = λ w s others x.
    let items = c.self.inside.lenders.items in
    let known = subst (IsLender c.args.client) (sym c.self.view_is) c.requires.known in
    let o = c.index_mut.result.now in
    let is = c.index_mut.ensures.value in
    done_lent items c.args.client known o _ is c.release_all.new.self w s others c.args.listings.now c.release_all.ensures.holding
    c.release_all.ensures.released
    (subst (IsDone w s others c.args.client c.args.listings.now) (sym c.self.view_is) x)

pub returns-clause-out : goal.returns-clause-out
returns-clause-out c =
    let items = c.self.inside.lenders.items in
    let known = subst (IsLender c.args.client) (sym c.self.view_is) c.requires.known in
    let own = here items c.args.client known c.index_mut.result.now _ c.index_mut.ensures.value in
    out_same items _ _ c.release_all.new.self own (ap (λ h. length h.counted) c.release_all.ensures.holding)
    ∙ ap resources_out c.self.view_is
