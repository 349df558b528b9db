use Rattle.std.proofs.Common.{◌≡◌, None, map, take, sym, ap, ◌∙◌}
use Rattle.vz_frame.specs.Places.{first_place}
use Rattle.vz_frame.proofs.Placing.{found_next, none_next, ids_more}
use Rattle.vz_frame.proofs.places.scan.Goals as goal

-- of no items none has the id
pub loop-place-init : goal.loop-place-init
unfolding first_place
loop-place-init g c = λ i. None

-- the item that has the id is the first
pub returns-then-id : goal.returns-then-id
returns-then-id g c =
    let item = c.index-items-place.result in
    sym (found_next g.T.HasId.id_of c.args.items.now c.loop-place.place item c.args.id c.loop-place-test.true c.index-items-place.is (sym c.id.ensures ∙ c.if-id.true) c.loop-place.invariant)

-- one more does not have it
pub loop-place-preserved : goal.loop-place-preserved
loop-place-preserved g c =
    let item = c.index-items-place.result in
    let ids = map g.T.HasId.id_of c.args.items.now in
    let more = ids_more g.T.HasId.id_of c.args.items.now c.loop-place.place item c.loop-place-test.true c.index-items-place.is in
    let other = λ (same : g.T.HasId.id_of item ≡ c.args.id). c.if-id.false (c.id.ensures ∙ same) in
    ap (first_place c.args.id) more ∙ none_next c.args.id (take c.loop-place.place ids) (g.T.HasId.id_of item) c.loop-place.invariant other
