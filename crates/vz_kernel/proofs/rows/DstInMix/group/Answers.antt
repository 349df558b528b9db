use Rattle.std.proofs.Common.{◌≡◌, ◌+◌, ◌-◌, ◌∙◌, length, map, ap, sym, arith}
use Rattle.std.specs.Prelude.{take, drop, replicate}
use Rattle.std.proofs.lemmas.Simd.{length-chunk, length-replicate}
use lib.Lanes.{chunk}
use Rattle.vz_pixels.specs.Colour.{transparent}
use Rattle.vz_kernel.specs.Lanes.{doubled, odds}
use Rattle.vz_kernel.proofs.Mixed.{alphas_is}
use Rattle.vz_kernel.proofs.Stored.{good_lanes, stored, left, copied, opaque_kept, clear_kept, kept_whole}
use Rattle.vz_kernel.proofs.rows.DstInMix.group.Goals as goal

pub returns-then-is_opaque : goal.returns-then-is_opaque
returns-then-is_opaque c =
    let ss = chunk c.args.at 16 c.args.src.now in
    let ds = chunk c.args.at 16 c.args.dst.now in
    let tops : length ss ≡ 16 = length-chunk c.args.at 16 c.args.src.now c.requires.src in
    let unders : length ds ≡ 16 = length-chunk c.args.at 16 c.args.dst.now c.requires.dst in
    left c.args.at 16 c.args.dst.now _ (opaque_kept ss ds (tops ∙ sym unders) (c.is_opaque.ensures ss c.load-top.ensures c.if-is_opaque.true))

pub returns-then-is_clear : goal.returns-then-is_clear
returns-then-is_clear c =
    let ss = chunk c.args.at 16 c.args.src.now in
    let ds = chunk c.args.at 16 c.args.dst.now in
    let tops : length ss ≡ 16 = length-chunk c.args.at 16 c.args.src.now c.requires.src in
    let unders : length ds ≡ 16 = length-chunk c.args.at 16 c.args.dst.now c.requires.dst in
    let inside = c.requires.dst in
    let many : (c.args.at + 16) - c.args.at ≡ 16 = omega arith in
    let count : length (take ((c.args.at + 16) - c.args.at) (drop c.args.at c.args.dst.now)) ≡ 16 =
    ap (λ n. length (take n (drop c.args.at c.args.dst.now))) many ∙ unders
    in
    let all : length (replicate 16 transparent) ≡ 16 = length-replicate 16 transparent in
    copied c.args.at ((c.args.at + 16) - c.args.at) c.args.dst.now c.fill.new.self (replicate 16 transparent) _ (many ∙ sym all) (omega arith)
    (c.fill.ensures.after (λ y h. h) ∙ (λ i. replicate (count i) (c.transparent.ensures i))) (clear_kept 16 ss ds tops unders (c.is_clear.ensures ss c.load-top.ensures c.if-is_clear.true))

pub store-requires-clause-good : goal.store-requires-clause-good
store-requires-clause-good c =
    let ss = chunk c.args.at 16 c.args.src.now in
    let by = c.alphas.ensures.value ∙ ap doubled (c.odds.ensures.value ∙ ap odds c.load-top.ensures.value) ∙ alphas_is ss in
    good_lanes c.scaled.result _ (c.scaled.ensures _ (map (λ s. s.a) ss) c.load-under.ensures by)

pub returns : goal.returns
returns c =
    let ss = chunk c.args.at 16 c.args.src.now in
    let ds = chunk c.args.at 16 c.args.dst.now in
    let by = c.alphas.ensures.value ∙ ap doubled (c.odds.ensures.value ∙ ap odds c.load-top.ensures.value) ∙ alphas_is ss in
    stored c.args.at c.args.dst.now c.store.new.row c.scaled.result _ _ c.store.ensures (c.scaled.ensures ds (map (λ s. s.a) ss) c.load-under.ensures by) (kept_whole ss ds)
