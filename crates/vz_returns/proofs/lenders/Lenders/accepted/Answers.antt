use Rattle.std.proofs.Common.{ap, sym, subst, length, arith}
use Rattle.vz_returns.specs.{Lent.IsLender, Lent.HasRoom, Lent.resources_out, Changes.IsAccepted}
use Rattle.vz_returns.proofs.Changed.{here, accepted_once, accepted_countable, accepted_enough, accepted_lent}
use Rattle.vz_returns.proofs.Lent_rooms.{out_more}
use Rattle.vz_returns.proofs.lenders.Lenders.accepted.Goals as goal

pub accept-requires-clause-once : goal.accept-requires-clause-once
accept-requires-clause-once c =
    let items = c.self.inside.lenders.items in
    let known = subst (IsLender c.args.client) (sym c.self.view_is) c.requires.known in
    let o = c.index_mut.result.now in
    let is = c.index_mut.ensures.value in
    let x = c.requires.accepted in
    let accepted = subst (IsAccepted x.0 x.1 x.2 x.3 x.4 c.args.client c.args.listings.now c.args.replaced.now) (sym c.self.view_is) x.5 in
    accepted_once items c.args.client known o _ is x.0 x.1 x.2 x.3 x.4 c.args.listings.now c.args.replaced.now accepted

pub accept-requires-clause-countable : goal.accept-requires-clause-countable
accept-requires-clause-countable c =
    let items = c.self.inside.lenders.items in
    let known = subst (IsLender c.args.client) (sym c.self.view_is) c.requires.known in
    let o = c.index_mut.result.now in
    let is = c.index_mut.ensures.value in
    let x = c.requires.accepted in
    let accepted = subst (IsAccepted x.0 x.1 x.2 x.3 x.4 c.args.client c.args.listings.now c.args.replaced.now) (sym c.self.view_is) x.5 in
    λ id there. accepted_countable items c.args.client known o _ is x.0 x.1 x.2 x.3 x.4 c.args.listings.now c.args.replaced.now accepted id

pub accept-requires-clause-spare : goal.accept-requires-clause-spare
accept-requires-clause-spare c =
    let items = c.self.inside.lenders.items in
    let known = subst (IsLender c.args.client) (sym c.self.view_is) c.requires.known in
    let o = c.index_mut.result.now in
    let is = c.index_mut.ensures.value in
    (subst (HasRoom (length c.args.listings.now) c.args.client) (sym c.self.view_is) c.requires.room o
    (here items c.args.client known o _ is)).0

pub accept-requires-clause-places : goal.accept-requires-clause-places
accept-requires-clause-places c =
    let items = c.self.inside.lenders.items in
    let known = subst (IsLender c.args.client) (sym c.self.view_is) c.requires.known in
    let o = c.index_mut.result.now in
    let is = c.index_mut.ensures.value in
    (subst (HasRoom (length c.args.listings.now) c.args.client) (sym c.self.view_is) c.requires.room o
    (here items c.args.client known o _ is)).1

pub accept-requires-clause-suffice : goal.accept-requires-clause-suffice
accept-requires-clause-suffice c =
    let items = c.self.inside.lenders.items in
    let known = subst (IsLender c.args.client) (sym c.self.view_is) c.requires.known in
    let o = c.index_mut.result.now in
    let is = c.index_mut.ensures.value in
    let x = c.requires.accepted in
    let accepted = subst (IsAccepted x.0 x.1 x.2 x.3 x.4 c.args.client c.args.listings.now c.args.replaced.now) (sym c.self.view_is) x.5 in
    accepted_enough items c.args.client known o _ is x.0 x.1 x.2 x.3 x.4 c.args.listings.now c.args.replaced.now accepted

pub returns-clause-lent : goal.returns-clause-lent
returns-clause-lent c = λ p w d local frame x.
    let items = c.self.inside.lenders.items in
    let known = subst (IsLender c.args.client) (sym c.self.view_is) c.requires.known in
    let o = c.index_mut.result.now in
    let is = c.index_mut.ensures.value in
    accepted_lent items c.args.client known o _ is p w d local frame c.args.listings.now c.args.replaced.now
    (subst (IsAccepted p w d local frame c.args.client c.args.listings.now c.args.replaced.now) (sym c.self.view_is) x) c.accept.new.self
    c.accept.ensures.holding c.accept.ensures.released

pub returns-clause-out : goal.returns-clause-out
returns-clause-out c =
    let items = c.self.inside.lenders.items in
    let known = subst (IsLender c.args.client) (sym c.self.view_is) c.requires.known in
    let o = c.index_mut.result.now in
    let is = c.index_mut.ensures.value in
    omega (
      arith,
      out_more items _ (length c.args.listings.now) o c.accept.new.self (here items c.args.client known o _ is) c.accept.ensures.out,
      ap resources_out c.self.view_is,
    )
