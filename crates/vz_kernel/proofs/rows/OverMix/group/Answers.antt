use Rattle.std.proofs.Common.{◌≡◌, ◌∙◌, length, refl, sym}
use Rattle.std.proofs.lemmas.Simd.{length-chunk}
use lib.Lanes.{chunk}
use Rattle.vz_kernel.proofs.Stored.{good_lanes, stored, left, clear_over, opaque_over}
use Rattle.vz_kernel.proofs.rows.OverMix.group.Goals as goal

pub returns-then-is_clear : goal.returns-then-is_clear
returns-then-is_clear c =
    let ss = chunk c.args.at 16 c.args.src.now in
    let ds = chunk c.args.at 16 c.args.dst.now in
    let tops : length ss ≡ 16 = length-chunk c.args.at 16 c.args.src.now c.requires.src in
    let unders : length ds ≡ 16 = length-chunk c.args.at 16 c.args.dst.now c.requires.dst in
    left c.args.at 16 c.args.dst.now _ (clear_over ss ds (tops ∙ sym unders) (c.is_clear.ensures ss c.load-top.ensures c.if-is_clear.true))

pub returns-then-is_opaque : goal.returns-then-is_opaque
returns-then-is_opaque c =
    let ss = chunk c.args.at 16 c.args.src.now in
    let ds = chunk c.args.at 16 c.args.dst.now in
    let tops : length ss ≡ 16 = length-chunk c.args.at 16 c.args.src.now c.requires.src in
    let unders : length ds ≡ 16 = length-chunk c.args.at 16 c.args.dst.now c.requires.dst in
    let same = opaque_over ss ds (tops ∙ sym unders) (c.is_opaque.ensures ss c.load-top.ensures c.if-is_opaque.true) in
    stored c.args.at c.args.dst.now c.store.new.row c.load-top.result ss _ c.store.ensures c.load-top.ensures same

pub store-requires-clause-good : goal.store-requires-clause-good
store-requires-clause-good c = good_lanes c.load-top.result _ c.load-top.ensures

pub store-requires-2-clause-good : goal.store-requires-2-clause-good
store-requires-2-clause-good c = good_lanes c.over.result _ (c.over.ensures _ _ c.load-top.ensures c.load-under.ensures)

pub returns : goal.returns
returns c = stored c.args.at c.args.dst.now c.store-2.new.row c.over.result _ _ c.store-2.ensures (c.over.ensures _ _ c.load-top.ensures c.load-under.ensures) refl
