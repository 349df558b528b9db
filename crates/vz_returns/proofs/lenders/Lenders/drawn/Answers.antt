use Rattle.std.proofs.Common.{ap, sym, subst, ◌∙◌, ◌+◌, length, arith}
use Rattle.vz_returns.specs.{Lent.IsLender, Lent.NoneReleased, Lent.HasPlaces, Lent.resources_out, Changes.IsDrawn, Listed.ids_of}
use Rattle.vz_returns.proofs.Changed.{here, drawn_countable, drawn_alive, drawn_lent, drawn_rising}
use Rattle.vz_returns.proofs.Lent_rooms.{out_same, none_released_set, places_set, shared_length}
use Rattle.vz_returns.proofs.lenders.Lenders.drawn.Goals as goal

pub hold_all-requires-clause-countable : goal.hold_all-requires-clause-countable
hold_all-requires-clause-countable c =
    let items = c.self.inside.lenders.items in
    let known = subst (IsLender c.args.client) (sym c.self.view_is) c.requires.known in
    let o = c.index_mut.result.now in
    let is = c.index_mut.ensures.value in
    let x = c.requires.drawn in
    let drawn = subst (IsDrawn x.0 x.1 x.2 x.3 c.args.client c.args.listings.now) (sym c.self.view_is) x.4 in
    λ id there. drawn_countable items c.args.client known o _ is x.0 x.1 x.2 x.3 c.args.listings.now drawn id

pub hold_all-requires-clause-some : goal.hold_all-requires-clause-some
hold_all-requires-clause-some c =
    let items = c.self.inside.lenders.items in
    let known = subst (IsLender c.args.client) (sym c.self.view_is) c.requires.known in
    let o = c.index_mut.result.now in
    let is = c.index_mut.ensures.value in
    let x = c.requires.drawn in
    let drawn = subst (IsDrawn x.0 x.1 x.2 x.3 c.args.client c.args.listings.now) (sym c.self.view_is) x.4 in
    drawn_alive items c.args.client known o _ is x.0 x.1 x.2 x.3 c.args.listings.now drawn

pub hold_all-requires-clause-places : goal.hold_all-requires-clause-places
hold_all-requires-clause-places c =
    let items = c.self.inside.lenders.items in
    let known = subst (IsLender c.args.client) (sym c.self.view_is) c.requires.known in
    let o = c.index_mut.result.now in
    let is = c.index_mut.ensures.value in
    subst (HasPlaces (length c.args.listings.now) c.args.client) (sym c.self.view_is) c.requires.room o
    (here items c.args.client known o _ is)

pub returns-clause-lent : goal.returns-clause-lent
returns-clause-lent c = λ p w before s x.
    let items = c.self.inside.lenders.items in
    let known = subst (IsLender c.args.client) (sym c.self.view_is) c.requires.known in
    let o = c.index_mut.result.now in
    let is = c.index_mut.ensures.value in
    drawn_lent items c.args.client known o _ is c.hold_all.new.self p w before s c.args.listings.now c.hold_all.ensures.holding
    c.hold_all.ensures.released
    (subst (IsDrawn p w before s c.args.client c.args.listings.now) (sym c.self.view_is) x)

pub returns-clause-released : goal.returns-clause-released
returns-clause-released c = λ none.
    let items = c.self.inside.lenders.items in
    let known = subst (IsLender c.args.client) (sym c.self.view_is) c.requires.known in
    let o = c.index_mut.result.now in
    let is = c.index_mut.ensures.value in
    none_released_set items _ o c.hold_all.new.self (here items c.args.client known o _ is) c.hold_all.ensures.released
    (subst NoneReleased (sym c.self.view_is) none)

pub returns-clause-places : goal.returns-clause-places
returns-clause-places c = λ n q has.
    let items = c.self.inside.lenders.items in
    let known = subst (IsLender c.args.client) (sym c.self.view_is) c.requires.known in
    let o = c.index_mut.result.now in
    let is = c.index_mut.ensures.value in
    places_set items _ (length c.args.listings.now) o c.hold_all.new.self (here items c.args.client known o _ is)
    (omega (arith, c.hold_all.ensures.places)) n q
    (subst (HasPlaces (n + length c.args.listings.now) q) (sym c.self.view_is) has)

pub returns-clause-out : goal.returns-clause-out
returns-clause-out c =
    let items = c.self.inside.lenders.items in
    let known = subst (IsLender c.args.client) (sym c.self.view_is) c.requires.known in
    let o = c.index_mut.result.now in
    let is = c.index_mut.ensures.value in
    let x = c.requires.drawn in
    let drawn = subst (IsDrawn x.0 x.1 x.2 x.3 c.args.client c.args.listings.now) (sym c.self.view_is) x.4 in
    out_same items _ o c.hold_all.new.self (here items c.args.client known o _ is)
    (ap (λ h. length h.counted) c.hold_all.ensures.holding
    ∙ shared_length (ids_of c.args.listings.now) o.holding
    (drawn_rising items c.args.client known o _ is x.0 x.1 x.2 x.3 c.args.listings.now drawn)
    (drawn_alive items c.args.client known o _ is x.0 x.1 x.2 x.3 c.args.listings.now drawn))
    ∙ ap resources_out c.self.view_is
