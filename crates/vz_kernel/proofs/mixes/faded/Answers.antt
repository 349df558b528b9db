use Rattle.std.proofs.Common.{◌≡◌, ◌*◌, length, map, ap, sym, subst, ◌∙◌}
use Rattle.std.specs.Prelude.{replicate}
use Rattle.vz_pixels.specs.Colour.{mul}
use Rattle.vz_kernel.specs.Lanes.{channels, evens, odds, woven, AreBytes}
use Rattle.vz_kernel.proofs.Vectors.{bytes_fit, bytes_evens, bytes_odds}
use Rattle.vz_kernel.proofs.Ones.{sums_by, length_evens, length_odds, plain, plain_small, faded_is, faded_good}
use Rattle.vz_kernel.proofs.mixes.faded.Goals as goal

pub returns : goal.returns
returns c o cs low factors are =
    let e = are.value in
    let x = subst AreBytes e (bytes_fit c.args.lanes c.fits-lanes.1) in
    let long : length (channels cs) ≡ 64 = ap length (sym e) ∙ c.fits-lanes.0 in
    let these : sums_by o (evens (channels cs)) (replicate 32 0) ≡ map (λ n. mul n o) (evens (channels cs)) = plain o 32 _ (length_evens 32 (channels cs) long) in
    let those : sums_by o (odds (channels cs)) (replicate 32 0) ≡ map (λ n. mul n o) (odds (channels cs)) = plain o 32 _ (length_odds 32 (channels cs) long) in
    let first = bytes_evens (channels cs) x in
    let second = bytes_odds (channels cs) x in
    let p =
    c.parts_plus.ensures.value o (evens (channels cs)) low factors (c.raised_evens.ensures ∙ ap (λ v. map (λ n. n * 256) (evens v)) e) first (subst AreBytes (sym these) (plain_small o (evens (channels cs)) low first)) ∙ these
    in
    let q =
    c.parts_plus-2.ensures.value o (odds (channels cs)) low factors (c.raised_odds.ensures ∙ ap (λ v. map (λ n. n * 256) (odds v)) e) second (subst AreBytes (sym those) (plain_small o (odds (channels cs)) low second)) ∙ those
    in
    record { value = c.woven.ensures ∙ (λ i. woven (p i) (q i)) ∙ faded_is o cs; good = faded_good o cs are.good }
