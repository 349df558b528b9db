use Rattle.std.proofs.Common.{◌≡◌, ◌-◌, ◌*◌, ◌≤◌, map, ap, sym, subst, ◌∙◌, arith}
use Rattle.vz_kernel.specs.Lanes.{channels, evens, odds, woven, AreBytes}
use Rattle.vz_kernel.proofs.Vectors.{bytes_fit, bytes_evens, bytes_odds}
use Rattle.vz_kernel.proofs.Ones.{sums_by, tops, evens_small, odds_small, tinted_is, tinted_good}
use Rattle.vz_kernel.proofs.mixes.tinted.Goals as goal

pub returns : goal.returns
returns c k ds above factors below =
    let low : 255 - k.a ≤ 255 = omega arith in
    let e = above.value in
    let f = below.value in
    let x = subst AreBytes e (bytes_fit c.args.top c.fits-top.1) in
    let y = subst AreBytes f (bytes_fit c.args.under c.fits-under.1) in
    let first : c.evens.result ≡ evens (tops k ds) = c.evens.ensures.value ∙ ap evens e in
    let second : c.odds.result ≡ odds (tops k ds) = c.odds.ensures.value ∙ ap odds e in
    let these : sums_by (255 - k.a) (evens (channels ds)) c.evens.result ≡ sums_by (255 - k.a) (evens (channels ds)) (evens (tops k ds)) =
    ap (sums_by (255 - k.a) (evens (channels ds))) first
    in
    let those : sums_by (255 - k.a) (odds (channels ds)) c.odds.result ≡ sums_by (255 - k.a) (odds (channels ds)) (odds (tops k ds)) =
    ap (sums_by (255 - k.a) (odds (channels ds))) second
    in
    let p =
    c.parts_plus.ensures.value (255 - k.a) (evens (channels ds)) low factors (c.raised_evens.ensures ∙ ap (λ v. map (λ n. n * 256) (evens v)) f) (bytes_evens (channels ds) y) (subst AreBytes (sym these) (evens_small k ds x above.good y)) ∙ these
    in
    let q =
    c.parts_plus-2.ensures.value (255 - k.a) (odds (channels ds)) low factors (c.raised_odds.ensures ∙ ap (λ v. map (λ n. n * 256) (odds v)) f) (bytes_odds (channels ds) y) (subst AreBytes (sym those) (odds_small k ds x above.good y)) ∙ those
    in
    record { value = c.woven.ensures ∙ (λ i. woven (p i) (q i)) ∙ tinted_is k ds; good = tinted_good k ds x above.good below.good }
