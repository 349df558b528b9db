use Rattle.std.proofs.Common.{◌≡◌, map, take, is_some, refl}
use Rattle.std.proofs.lemmas.List.{take-map}
use Rattle.vz_frame.specs.Places.{first_place}
use Rattle.vz_frame.proofs.Placing.{repeats_more}
use Rattle.vz_frame.proofs.places.scan_repeats.Goals as goal

-- one more repeats an earlier one, or there was a repeat before
pub loop-place-preserved : goal.loop-place-preserved
loop-place-preserved g c =
    let item = c.index-items-place.result in
    let answer : c.is_some-repeats.result ≡ is_some (first_place (g.T.HasId.id_of item) (take c.loop-place.place (map g.T.HasId.id_of c.args.items.now))) =
    rw (c.is_some-repeats.ensures, c.scan-earlier.ensures, c.id.ensures, take-map g.T.HasId.id_of c.loop-place.place c.args.items.now) refl in
    repeats_more g.T.HasId.id_of c.args.items.now c.loop-place.place item c.loop-place-test.true c.index-items-place.is
    c.loop-place.repeats c.is_some-repeats.result c.loop-place.invariant answer
