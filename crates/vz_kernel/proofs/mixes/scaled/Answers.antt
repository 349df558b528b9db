use Rattle.std.proofs.Common.{◌∙◌}
use lib.Lanes.{zip2}
use Rattle.vz_pixels.specs.Colour.{mul}
use Rattle.vz_kernel.specs.Lanes.{woven}
use Rattle.vz_kernel.proofs.Mixed.{scaled_lanes, scaled_is, scaled_good}
use Rattle.vz_kernel.proofs.mixes.scaled.Goals as goal

pub returns : goal.returns
returns c cs bs lanes f =
    let p = c.parts.ensures.value ∙ (λ i. zip2 mul (c.evens.ensures.value i) c.args.by) in
    let q = c.parts-2.ensures.value ∙ (λ i. zip2 mul (c.odds.ensures.value i) c.args.by) in
    let e = lanes.value in
    record {
      value = c.woven_by_fours.ensures ∙ (λ i. woven (p i) (q i)) ∙ (λ i. scaled_lanes (e i) (f i)) ∙ scaled_is cs bs;
      good = scaled_good cs bs lanes.good;
    }
