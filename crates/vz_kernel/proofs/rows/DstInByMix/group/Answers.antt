use Rattle.std.proofs.{Common.◌≡◌, Common.◌∙◌, Common.length, Common.ap, lemmas.Simd.length-chunk}
use Rattle.std.specs.Prelude.{replicate}
use lib.Lanes.{chunk, zip2}
use Rattle.vz_pixels.specs.Colour.{mul}
use Rattle.vz_kernel.specs.Lanes.{doubled}
use Rattle.vz_kernel.proofs.Stored.{good_lanes, stored, kept, kept_lanes}
use Rattle.vz_kernel.proofs.rows.DstInByMix.group.Goals as goal

pub store-requires-clause-good : goal.store-requires-clause-good
store-requires-clause-good c =
    let o = c.args.self.now.opacity in
    let ss = chunk c.args.at 16 c.args.src.now in
    let by = ap (replicate 32) c.from-by.ensures in
    let kept_by = c.parts-kept.ensures.value ∙ ap (λ l. zip2 mul l (replicate 32 c.from-by.result)) (c.alphas.ensures.value ∙ ap doubled c.odds.ensures.value) ∙ kept_lanes o c.load.result ss 16 _ c.load.ensures by in
    good_lanes c.scaled.result _ (c.scaled.ensures _ _ c.load-under.ensures kept_by)

pub returns : goal.returns
returns c =
    let o = c.args.self.now.opacity in
    let ss = chunk c.args.at 16 c.args.src.now in
    let by = ap (replicate 32) c.from-by.ensures in
    let kept_by = c.parts-kept.ensures.value ∙ ap (λ l. zip2 mul l (replicate 32 c.from-by.result)) (c.alphas.ensures.value ∙ ap doubled c.odds.ensures.value) ∙ kept_lanes o c.load.result ss 16 _ c.load.ensures by in
    let tops : length ss ≡ 16 = length-chunk c.args.at 16 c.args.src.now c.requires.src in
    let ds = chunk c.args.at 16 c.args.dst.now in
    stored c.args.at c.args.dst.now c.store.new.row c.scaled.result _ _ c.store.ensures (c.scaled.ensures ds _ c.load-under.ensures kept_by) (kept o 16 ss ds tops)
