use Rattle.std.proofs.Common.{set, ◌∙◌, ap, sym, subst, ◌-◌}
use Rattle.vz_rules.proofs.Members.{at_contains}
use Rattle.vz_returns.specs.Lent.{IsLender, AreLent, HasRoom, AreRoomier, NoneReleased, resources_out}
use Rattle.vz_returns.proofs.{Changed.here, Lent_rooms.roomier_lent, Lent_rooms.roomier_none, Lent_rooms.roomier_out, Lent_rooms.roomier_set}
use Rattle.vz_returns.proofs.lenders.Lenders.ready.Goals as goal

pub returns-clause-lent : goal.returns-clause-lent
returns-clause-lent c = λ w lent.
    let items = c.self.inside.lenders.items in
    let known = subst (IsLender c.args.client) (sym c.self.view_is) c.requires.known in
    let e = c.ready.ensures in
    let same = roomier_set items (c.args.client - 1) c.index_mut.result.now c.ready.new.self
    (here items c.args.client known c.index_mut.result.now _ c.index_mut.ensures.value)
    (record { holding = e.holding; released = e.released; spare = e.no_less; places = e.no_fewer }) in
    roomier_lent w items _ same (subst (AreLent w) (sym c.self.view_is) lent)

pub returns-clause-released : goal.returns-clause-released
returns-clause-released c = λ none.
    let items = c.self.inside.lenders.items in
    let known = subst (IsLender c.args.client) (sym c.self.view_is) c.requires.known in
    let e = c.ready.ensures in
    let same = roomier_set items (c.args.client - 1) c.index_mut.result.now c.ready.new.self
    (here items c.args.client known c.index_mut.result.now _ c.index_mut.ensures.value)
    (record { holding = e.holding; released = e.released; spare = e.no_less; places = e.no_fewer }) in
    roomier_none items _ same (subst NoneReleased (sym c.self.view_is) none)

pub returns-clause-out : goal.returns-clause-out
returns-clause-out c =
    let items = c.self.inside.lenders.items in
    let known = subst (IsLender c.args.client) (sym c.self.view_is) c.requires.known in
    let e = c.ready.ensures in
    let same = roomier_set items (c.args.client - 1) c.index_mut.result.now c.ready.new.self
    (here items c.args.client known c.index_mut.result.now _ c.index_mut.ensures.value)
    (record { holding = e.holding; released = e.released; spare = e.no_less; places = e.no_fewer }) in
    roomier_out items _ same ∙ ap resources_out c.self.view_is

pub returns-clause-same : goal.returns-clause-same
returns-clause-same c =
    let items = c.self.inside.lenders.items in
    let known = subst (IsLender c.args.client) (sym c.self.view_is) c.requires.known in
    let e = c.ready.ensures in
    let same = roomier_set items (c.args.client - 1) c.index_mut.result.now c.ready.new.self
    (here items c.args.client known c.index_mut.result.now _ c.index_mut.ensures.value)
    (record { holding = e.holding; released = e.released; spare = e.no_less; places = e.no_fewer }) in
    subst (λ l. AreRoomier l (set items (c.args.client - 1) c.ready.new.self)) c.self.view_is same

pub returns-clause-succeeds : goal.returns-clause-succeeds
returns-clause-succeeds c = λ none has.
    let items = c.self.inside.lenders.items in
    let known = subst (IsLender c.args.client) (sym c.self.view_is) c.requires.known in
    let o = c.index_mut.result.now in
    let own = here items c.args.client known o _ c.index_mut.ensures.value in
    let room = subst (HasRoom c.args.listings c.args.client) (sym c.self.view_is) has o own in
    c.ready.ensures.succeeds (subst NoneReleased (sym c.self.view_is) none o (at_contains items (c.args.client - 1) o own)) room.0 room.1
