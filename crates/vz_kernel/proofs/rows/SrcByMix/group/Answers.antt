use Rattle.std.proofs.Common.{rules, ◌≡◌, ◌≤◌, ◌∙◌, length, sym}
use Rattle.std.proofs.lemmas.Simd.{length-chunk}
use lib.Lanes.{chunk}
use Rattle.vz_kernel.proofs.Stored.{good_lanes, stored, scaled_put}
use Rattle.vz_kernel.proofs.rows.SrcByMix.group.Goals as goal

pub store-requires-clause-good : goal.store-requires-clause-good
store-requires-clause-good c =
    let low : c.args.self.now.opacity ≤ 255 = search rules in
    good_lanes c.faded.result _ (c.faded.ensures _ _ low c.requires.factors c.load.ensures)

pub returns : goal.returns
returns c =
    let ss = chunk c.args.at 16 c.args.src.now in
    let ds = chunk c.args.at 16 c.args.dst.now in
    let tops : length ss ≡ 16 = length-chunk c.args.at 16 c.args.src.now c.requires.src in
    let unders : length ds ≡ 16 = length-chunk c.args.at 16 c.args.dst.now c.requires.dst in
    let o = c.args.self.now.opacity in
    let low : o ≤ 255 = search rules in
    stored c.args.at c.args.dst.now c.store.new.row c.faded.result _ _ c.store.ensures (c.faded.ensures o ss low c.requires.factors c.load.ensures) (scaled_put o ss ds (tops ∙ sym unders))
