use Rattle.std.proofs.Common.{sym, ap, ◌∙◌, slice_get}
use Rattle.vz_frame.proofs.Placing.{got, found_there, found_none}
use Rattle.vz_frame.proofs.places.Places.find.Goals as goal

-- the value stands at the first place
pub returns-in-Some : goal.returns-in-Some
returns-in-Some g c =
    let place = c.in-Some.place in
    let there = sym c.first.ensures ∙ c.in-Some.is in
    got c.self.inside.items.now place c.get.result c.get.ensures.lookup.3
    ∙ ap (λ items. slice_get items place) c.self.view_is ∙ found_there g.T.HasId.id_of c.args.id c.args.self.now place there

-- there is no place
pub returns-in-None : goal.returns-in-None
returns-in-None g c = sym (found_none g.T.HasId.id_of c.args.id c.args.self.now (sym c.first.ensures ∙ c.in-None.is))
