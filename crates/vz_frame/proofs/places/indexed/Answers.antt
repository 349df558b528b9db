use Rattle.std.proofs.Common.{map, take, is_none, not, sym, ap, subst, ◌∙◌, refl, arith}
use Rattle.vz_frame.specs.Pairs.{get, GetsAfterSet}
use Rattle.vz_frame.specs.Places.{first_place}
use Rattle.vz_frame.proofs.Placing.{Grows, grows, ids_more, so_many, repeats_more}
use Rattle.vz_frame.proofs.places.indexed.Goals as goal

-- of no items there are no ids
pub loop-place-init : goal.loop-place-init
unfolding first_place
loop-place-init g c = rw c.new-index.ensures ((λ n. refl), refl, omega arith)

-- one more is put into the map where it is new
pub loop-place-preserved : goal.loop-place-preserved
loop-place-preserved g c =
    let item = c.index-items-place.result in
    let place = c.loop-place.place in
    let id_of = g.T.HasId.id_of in
    let items = c.args.items.now in
    let old = c.loop-place.index in
    let new = c.insert-is_new.new.self in
    let ids = take place (map id_of items) in
    let before = c.loop-place.invariant in
    let put = c.insert-is_new.ensures in
    let is = c.id.ensures in
    let long = so_many id_of items place item c.loop-place-test.true c.index-items-place.is in
    let step : Grows old new ids (id_of item) c.insert-is_new.result =
    grows old new ids (id_of item) place c.insert-is_new.result before.0 before.2 long
    (put.answer ∙ ap (λ n. is_none (get old n)) is)
    (λ t. subst (λ n. GetsAfterSet old new n place) is (put.new t))
    put.longer put.kept in
    let more = ids_more id_of items place item c.loop-place-test.true c.index-items-place.is in (
      (λ n. step.maps n ∙ ap (first_place n) (sym more)),
      repeats_more id_of items place item c.loop-place-test.true c.index-items-place.is c.loop-place.repeats (not c.insert-is_new.result) before.1 step.repeats,
      omega (arith, step.few, long),
    )
