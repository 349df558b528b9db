use Rattle.std.proofs.Common.{ap, rules, ◌≡◌, length, sym, subst, ◌∙◌}
use Rattle.std.proofs.lemmas.List.{with_items_is}
use Rattle.vz_returns.specs.Lent.{AreLent, NoneReleased, resources_out}
use Rattle.vz_returns.proofs.Lent_rooms.{roomier_lent, roomier_none, roomier_out}
use Rattle.vz_returns.proofs.lenders.Lenders.ready_to_draw.Goals as goal

pub returns-clause-lent : goal.returns-clause-lent
returns-clause-lent c = λ w lent.
    let many : length c.make_places.new.lenders ≡ c.self.inside.lenders.len = search rules in
    subst (AreLent w) (sym (with_items_is c.self.inside.lenders c.make_places.new.lenders many))
    (roomier_lent w _ _ c.make_places.ensures.same (subst (AreLent w) (sym (c.deref_mut.ensures.value ∙ c.self.view_is)) lent))

pub returns-clause-released : goal.returns-clause-released
returns-clause-released c = λ none.
    let many : length c.make_places.new.lenders ≡ c.self.inside.lenders.len = search rules in
    subst NoneReleased (sym (with_items_is c.self.inside.lenders c.make_places.new.lenders many))
    (roomier_none _ _ c.make_places.ensures.same (subst NoneReleased (sym (c.deref_mut.ensures.value ∙ c.self.view_is)) none))

pub returns-clause-out : goal.returns-clause-out
returns-clause-out c =
    let many : length c.make_places.new.lenders ≡ c.self.inside.lenders.len = search rules in
    ap resources_out (with_items_is c.self.inside.lenders c.make_places.new.lenders many)
    ∙ (roomier_out _ _ c.make_places.ensures.same ∙ ap resources_out (c.deref_mut.ensures.value ∙ c.self.view_is))
