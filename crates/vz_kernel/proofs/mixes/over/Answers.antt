use Rattle.std.proofs.Common.{◌≡◌, ◌-◌, ◌%◌, ◌+◌, map, ap, subst, ◌∙◌}
use lib.Lanes.{zip2}
use Rattle.vz_pixels.specs.Colour.{mul}
use Rattle.vz_kernel.specs.Lanes.{odds, woven, doubled, AreBytes}
use Rattle.vz_kernel.proofs.{Vectors.bytes_fit, Vectors.rest_of_alphas, Mixed.over_lanes, Mixed.over_is, Mixed.over_good}
use Rattle.vz_kernel.proofs.mixes.over.Goals as goal

pub returns : goal.returns
returns c ss ds tops unders =
    let s = c.args.top in
    let d = c.args.under in
    let rest : c.alphas-rest.result ≡ map (λ x. 255 - x) (doubled (odds s)) =
    c.alphas-rest.ensures.value ∙ ap doubled (c.odds.ensures.value ∙ ap odds c.rest.ensures) ∙ rest_of_alphas s
    in
    let p = c.parts.ensures.value ∙ (λ i. zip2 mul (c.evens.ensures.value i) (rest i)) in
    let q = c.parts-2.ensures.value ∙ (λ i. zip2 mul (c.odds-2.ensures.value i) (rest i)) in
    let e = tops.value in
    let f = unders.value in
    let x = subst AreBytes e (bytes_fit s c.fits-top.1) in
    let y = subst AreBytes f (bytes_fit d c.fits-under.1) in
    record {
      value = ap (zip2 (λ a b. (a + b) % 256) s) (c.woven_by_fours.ensures ∙ (λ i. woven (p i) (q i))) ∙ (λ i. over_lanes (e i) (f i)) ∙ over_is ss ds x y tops.good;
      good = over_good ss ds x tops.good unders.good;
    }
